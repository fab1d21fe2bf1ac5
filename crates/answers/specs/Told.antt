-- What a C program is told of a refusal: the number that a function returns and the position that it writes.
-- Rests on semantics/specs/Answer.
use Rattle.std.specs.Prelude.{ℕ}
use Rattle.semantics.specs.Answer.{Refusal, Outcome}

abbrev pub told : ℕ → ℕ → Refusal
told n p = record { number = n; position = p }

-- the refusal that ended a run
abbrev pub run_refusal : Outcome → Refusal
run_refusal r = record { number = r.refusal; position = r.position }
