-- The lines of the list maker: SPEC, "The list maker". `made_line` is the one on standard output, `refusal_line` says on standard error why
-- a
-- name is not listed.
use Rattle.std.specs.Prelude.{ℕ, cond, List, ◌++◌, eqb, take}
use Prim.Native.String.{String}
use Rattle.fips.specs.Constants.{ascii}
use Rattle.lines.specs.Lines.{why_words, decimal}
use Rattle.listing.specs.declared.Reason.{Reason}
use Rattle.listing.specs.Shown.{shown}

-- the bytes in which every line is whole, and how many bytes of a name are shown
abbrev pub say_room : ℕ
say_room = 1152

abbrev pub most_shown : ℕ
most_shown = 255

unfoldable pub title : ℕ → String
title e =
    cond (eqb e 1) "SHA-224\n"
    (cond (eqb e 2) "SHA-256\n"
    (cond (eqb e 3) "SHA-384\n"
    (cond (eqb e 4) "SHA-512\n" (cond (eqb e 5) "SHA-512/224\n" (cond (eqb e 6) "SHA-512/256\n" "no edition\n")))))

unfoldable pub made_line : ℕ → ℕ → ℕ → List ℕ
made_line bytes listed e =
    ascii "yard.man: " ++ (decimal bytes ++ ascii " bytes, ") ++ (decimal listed ++ ascii " listed, ") ++ ascii (title e)

abbrev pub reason_words : Reason → String
reason_words Reason.Empty = ": an empty name (rule 15)\n"
reason_words Reason.Long = ": a name of more than 64 bytes (rule 15)\n"
reason_words Reason.Byte = ": a name has only bytes 21 to 7e, no blank (rule 15)\n"
reason_words Reason.Twice = ": named twice (rule 16)\n"
reason_words Reason.Full = ": a 257th file; a list has at most 256 (rule 17)\n"
reason_words Reason.Unended = ": a name without a zero byte behind it\n"
reason_words Reason.TooLong = ": over 2^40 bytes, which every check calls BAD\n"
reason_words (Reason.Unread why) = why_words why
reason_words Reason.Unfit = ": it cannot be put in the list\n"

unfoldable pub refusal_line : Reason → List ℕ → List ℕ
refusal_line reason name = shown (take most_shown name) ++ ascii (reason_words reason)
