-- What a tally is after one more line. Its numbers go round at 2^64, which no run reaches.
use Rattle.std.specs.Prelude.{Bool, cond, ◌+◌, ◌%◌, ◌^◌}
use Rattle.hexlines.specs.declared.Tally.{Tally}

abbrev pub counted : Tally → Bool → Tally
counted t holds = record { lines = (t.lines + 1) % 2 ^ 64; passed = (t.passed + cond holds 1 0) % 2 ^ 64 }
