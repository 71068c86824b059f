-- The constants, each by its rule: FIPS 180-4 §4.2 and §5.3, SPEC, "Constants, by rule". No number of a table stands here.
use Rattle.std.specs.Prelude.{ℕ, ◌%◌, ◌^◌, Bool, List, [], ◌∷◌, map, take, drop}
use Prim.Native.Char.{code}
use Prim.Native.String.{String}
use Rattle.std.specs.Int.Bits.{bit_xor}
use Rattle.fips.specs.Bits.{bits_of}
use Rattle.fips.specs.Words.{Width, w32, w64, word}
use Rattle.fips.specs.Block.{blocks}
use Rattle.fips.specs.Padding.{pad, parse}
use Rattle.fips.specs.Primes.{primes}
use Rattle.fips.specs.Roots.{root_word}

-- §4.2.2 and §4.2.3: a cube-root word for each round, from the first prime on
unfoldable pub round_words : Width → List ℕ
round_words p = map (root_word 3 (word p)) (take p.rounds primes)

-- §6.2.2 and §6.4.2: the chaining words after blocks in order, and the last ones of a message of bits
abbrev pub chain : Width → List ℕ → List (List ℕ) → List ℕ
chain p H ms = blocks p (round_words p) H ms

unfoldable pub hash_from : Width → List ℕ → List Bool → List ℕ
hash_from p H m = chain p H (parse p (pad p m))

-- square-root words of the first eight of the primes given
abbrev pub root_start : Width → List ℕ → List ℕ
root_start p ps = map (root_word 2 (word p)) (take 8 ps)

-- §5.3.3: SHA-256 takes the first primes
unfoldable pub start256 : List ℕ
start256 = root_start w32 primes

-- §5.3.4: SHA-384 leaves out eight, and takes the next
unfoldable pub start384 : List ℕ
start384 = root_start w64 (drop 8 primes)

-- §5.3.5: SHA-512 takes those of SHA-256, and more bits
unfoldable pub start512 : List ℕ
start512 = root_start w64 primes

-- §5.3.2: SHA-224 cuts SHA-384's words to their last 32 bits
unfoldable pub start224 : List ℕ
start224 = map (λ x. x % 2 ^ 32) start384

-- the bytes of an ASCII text
unfoldable pub ascii : String → List ℕ
ascii String.[] = []
ascii (String.◌∷◌ c s) = code c ∷ ascii s

-- §5.3.6: the last words of the text, hashed by SHA-512's rules; its starting words H are first XORed with a5 in each byte
abbrev pub seeded : List ℕ → String → List ℕ
seeded H text = hash_from w64 (map (bit_xor 0xa5a5a5a5a5a5a5a5) H) (bits_of (ascii text))

unfoldable pub generated : String → List ℕ
generated text = seeded start512 text
