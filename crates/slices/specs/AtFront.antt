-- What a call writes in its output: SPEC, "Calls and their numbers". It starts where the output starts, and what lies behind it is kept.
use Rattle.std.specs.Prelude.{List, ◌++◌, length, take, drop}

-- the new elements at the front, as many as there is room for, and the rest of the output as it was
unfoldable pub at_front : {A : Type 0} → List A → List A → List A
at_front new out = take (length out) new ++ drop (length new) out
