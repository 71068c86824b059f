-- The samples marked P, SPEC, "Samples": one table, and the claim that every row holds.
-- A row is what a definition gives, and what it is to be.
use Rattle.std.specs.Prelude.{ℕ, Bool, true, List, [], ◌∷◌, ◌++◌, map, ◌≡◌, length, replicate}
use Rattle.bigendian.specs.BigEndian.{be}
use Rattle.fips.specs.Bits.{digit}
use Rattle.fips.specs.Words.{Width, w32, w64, ch, big0, big1, small0, small1}
use Rattle.fips.specs.Roots.{root_word}
use Rattle.fips.specs.Padding.{pad, parse}
use Rattle.fips.specs.Constants.{ascii}
use Rattle.fips.specs.Message.{message, bytes_in}
use Rattle.fips.specs.Editions.{digest}
use Rattle.dwsha2.specs.Closing.{closing_fits}
use Rattle.halfread.specs.Steps.{opened, added}
use Rattle.records.specs.Record.{record_of}
use Rattle.lists.specs.Layout.{list_bytes}
use Rattle.treerule.specs.Root.{leaf}
use Rattle.treerule.specs.Split.{split}

pub record Sample : Type 0 where
  pub given : List ℕ
  pub said : List ℕ

infix 20 ◌is◌
abbrev pub ◌is◌ : List ℕ → List ℕ → Sample
given is said = record { given = given; said = said }

-- the claim: in each row the two are equal
abbrev pub Hold : List Sample → Type 0
Hold [] = Unit {0}
Hold (s ∷ ss) = (s.given ≡ s.said) × Hold ss

-- how many blocks a message of l bits fills
blocks_of : Width → ℕ → List ℕ
blocks_of p l = length (parse p (pad p (replicate l true))) ∷ []

abc : List Bool
abc = message (ascii "abc") 0 0

-- NIST's digest of it in edition 2
abc_digest : ℕ
abc_digest = 0xba7816bf8f01cfea414140de5dae2223b00361a396177a9cb410ff61f20015ad

unfoldable pub table : List Sample
unfolding blocks_of abc abc_digest
table =
    -- three short messages, padded
    (bytes_in (pad w32 []) is 0x80 ∷ replicate 63 0)
    ∷ (bytes_in (pad w32 abc) is (0x61 ∷ 0x62 ∷ 0x63 ∷ 0x80 ∷ replicate 52 0) ++ be 8 0x18)
    ∷ (bytes_in (pad w32 (message [] 0x68 5)) is (0x6c ∷ replicate 62 0) ++ (0x05 ∷ []))
    -- where the length no longer fits behind the message
    ∷ (blocks_of w32 447 is 1 ∷ [])
    ∷ (blocks_of w32 448 is 2 ∷ [])
    ∷ (blocks_of w64 895 is 1 ∷ [])
    ∷ (blocks_of w64 896 is 2 ∷ [])
    -- the functions on words of 32 bits and of 64, Ch, and two root words
    ∷ ((big0 w32 1 ∷ big1 w32 1 ∷ small0 w32 1 ∷ small1 w32 1 ∷ []) is (0x40080400 ∷ 0x04200080 ∷ 0x02004000 ∷ 0x0000a000 ∷ []))
    ∷ ((big0 w64 1 ∷ small0 w64 1 ∷ []) is (0x0000001042000000 ∷ 0x8100000000000000 ∷ []))
    ∷ ((ch w32 0xffff0000 0x12345678 0x9abcdef0 ∷ []) is (0x1234def0 ∷ []))
    ∷ ((root_word 2 32 2 ∷ root_word 3 32 2 ∷ []) is (0x6a09e667 ∷ 0x428a2f98 ∷ []))
    -- closing bits that fit their byte; and those that do not: a 1 behind them, eight of them
    ∷ (map digit (closing_fits 0x68 5 ∷ closing_fits 0xfe 7 ∷ closing_fits 0x00 0 ∷ []) is 1 ∷ 1 ∷ 1 ∷ [])
    ∷ (map digit (closing_fits 0x68 4 ∷ closing_fits 0xff 7 ∷ closing_fits 0x80 0 ∷ closing_fits 0x00 8 ∷ []) is 0 ∷ 0 ∷ 0 ∷ 0 ∷ [])
    -- a saved record at words of 32 bits and one at words of 64, with the standard's starting words
    ∷ (record_of (added (opened 2) (ascii "abc"))
    is be 8 0x0002000800180038 ++ be 8 0x03 ++ be 8 0x0003003b00000000
    ++ be 32 0x6a09e667bb67ae853c6ef372a54ff53a510e527f9b05688c1f83d9ab5be0cd19
    ++ (0x61 ∷ 0x62 ∷ 0x63 ∷ []))
    ∷ (record_of (added (opened 4) (ascii "abc"))
    is be 8 0x0004000800180058 ++ be 8 0x03 ++ be 8 0x0003005b00000000
    ++ be 32 0x6a09e667f3bcc908bb67ae8584caa73b3c6ef372fe94f82ba54ff53a5f1d36f1
    ++ be 32 0x510e527fade682d19b05688c2b3e6c1f1f83d9abfb41bd6b5be0cd19137e2179
    ++ (0x61 ∷ 0x62 ∷ 0x63 ∷ []))
    -- a list without entries, and one of one entry, which has the digest of abc
    ∷ (list_bytes (record { edition = 2; pairs = [] }) is be 4 0x00020000 ++ be 4 0x10 ++ be 4 0x10 ++ be 4 0x10)
    ∷ (list_bytes (record { edition = 2; pairs = record { name = ascii "fleet.cfg"; digest = be 32 abc_digest } ∷ [] })
    is be 4 0x00020001 ++ be 4 0x10 ++ be 4 0x38 ++ be 4 0x41
    ++ be 4 0x38 ++ be 4 0x09 ++ be 32 abc_digest ++ be 9 0x666c6565742e636667)
    -- the leaf of no bytes, and the root above three nodes, of which the last is carried up: each node as published for trees of RFC 6962
    ∷ (leaf [] is be 32 0x6e340b9cffb37a989ca544e6bb780a2c78901d3fb33738768511a30617afa01d)
    ∷ (split
    (be 32 0xfac54203e7cc696cf0dfcb42c92a1d9dbaf70ad9e621f4bd8d98662f00e3c125
    ∷ be 32 0x5f083f0a1a33ca076a95279832580db3e0ef4584bdff1f54c8a360f50de3031e
    ∷ be 32 0xbc1a0643b12e4d2d7c77918f44e0f4f79a838b6cf9ec5b5c283e1f4d88599e6b
    ∷ [])
    is be 32 0x4e3bbb1f7b478dcfe71fb631631519a3bca12c9aefca1612bfce4c13a86264d4)
    -- a message in every edition, as NIST's examples have it
    ∷ (digest 1 abc is be 28 0x23097d223405d8228642a477bda255b32aadbce4bda0b3f7e36c9da7)
    ∷ (digest 2 abc is be 32 abc_digest)
    ∷ (digest 3 abc is be 48 0xcb00753f45a35e8bb5a03d699ac65007272c32ab0eded1631a8b605a43ff5bed8086072ba1e7cc2358baeca134c825a7)
    ∷ (digest 4 abc is be 64 0xddaf35a193617abacc417349ae20413112e6fa4e89a97ea20a9eeee64b55d39a2192992a274fc1a836ba3c23a3feebbd454d4423643ce80e2a9ac94fa54ca49f)
    ∷ (digest 5 abc is be 28 0x4634270f707b6a54daae7530460842e20e37ed265ceee9a43e8924aa)
    ∷ (digest 6 abc is be 32 0x53048e2681941ef99b2e29b76b4c7dabe4c2d0c634fc6d46e0e2f13107e7af23)
    ∷ []
