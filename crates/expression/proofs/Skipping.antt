-- An expression passed over as a whole: fifteen words are left at its start, and sixteen rounds are more than these. A constant and a lone variable by
-- their word alone, any other by what `pass` answers.
use mathlib.Core.Path.{◌≡◌, refl}
use mathlib.Core.List.{List}
use Prim.Native.Nat.{ℕ, ◌+◌, ◌≤◌, ◌<◌}
use native.Mathlib.Omega.{arith}
use borrow.Author.Rules.{rules}
use lib.ListN.{length, get_or}
use Rattle.semantics.specs.Refusal.{most_expression_words}
use Rattle.semantics.specs.Word.{kind, payload}
use Rattle.semantics.specs.Reading.{read, refused}
use Rattle.semantics.specs.ReadNet.{read_expression}
use Rattle.std.specs.Prelude.{Result, Ok, Err}
use Rattle.semantics.specs.declared.refusal.Refusal.{Refusal}
use Rattle.semantics.specs.Answer.{refusing}
use Rattle.expression.specs.Head.{Onward}
use Rattle.expression.specs.Skip.{forget, passed, Ahead, IsPassed}
use Rattle.expression.proofs.Heads.{words-end, too_many, constant-read, constant_stray, variable-read, variable_missing}
use Rattle.expression.proofs.Passing.{refused-head, constant-head, variable-head}

-- ── By what is passed ──

module _ {ws : List ℕ} {variables at : ℕ} {r : Result (ℕ × ℕ) Refusal} (x : IsPassed ws variables at most_expression_words r) where
  whole : passed r ≡ forget (read_expression ws variables at)
  unfolding read_expression
  whole = x.same (most_expression_words + 1) (at + most_expression_words) (omega arith) refl

  pub next : {p : ℕ × ℕ} → r ≡ Ok p → read tt p.0 ≡ forget (read_expression ws variables at)
  next e = rw e at whole

  pub ahead : {p : ℕ × ℕ} → r ≡ Ok p → Ahead ws at p.0
  ahead {p} e =
      let q : Onward ws at most_expression_words p.0 p.1 = rw e at x.onward in
      record { later = q.later; short = omega arith; in_words = q.in_words; in_limit = q.in_limit }

  pub stopped : {e : Refusal} → r ≡ Err e → refusing e ≡ forget (read_expression ws variables at)
  stopped e = rw e at whole

pub ruleset skipping = (rules, next, ahead, stopped)

-- ── By the word ──

pub skip_ahead : {ws : List ℕ} {at : ℕ} → at < length ws → at < 16384 → Ahead ws at (at + 1)
skip_ahead h l = record { later = omega arith; short = omega arith; in_words = omega arith; in_limit = omega arith }

module _ (ws : List ℕ) (variables at : ℕ) where
  pub skip_end : length ws ≤ at → refused 2 (length ws) ≡ forget (read_expression ws variables at)
  skip_end h = stopped (refused-head (words-end h) refl) refl

  pub skip_limit : at < length ws → 16384 ≤ at → refused 1 16384 ≡ forget (read_expression ws variables at)
  skip_limit h l = stopped (refused-head (too_many h l) refl) refl

  module _ {k u : ℕ} (h : at < length ws) (l : at < 16384) (e : k ≡ kind (get_or ws at 0)) (d : u ≡ payload (get_or ws at 0)) where
    pub skip_constant : k ≡ 7 → u < 16384 → read tt (at + 1) ≡ forget (read_expression ws variables at)
    skip_constant s j = next (constant-head (constant-read h l e d s j refl) refl) refl

    pub skip_stray : k ≡ 7 → 16384 ≤ u → refused 3 at ≡ forget (read_expression ws variables at)
    skip_stray s j = stopped (refused-head (constant_stray h l e d s j) refl) refl

    pub skip_variable : k ≡ 8 → u < variables → read tt (at + 1) ≡ forget (read_expression ws variables at)
    skip_variable s j = next (variable-head (variable-read h l e d s j) refl) refl

    pub skip_missing : k ≡ 8 → variables ≤ u → refused 3 at ≡ forget (read_expression ws variables at)
    skip_missing s j = stopped (refused-head (variable_missing h l e d s j) refl) refl

pub ruleset skipping-word = (rules, skip_end, skip_limit, skip_ahead, skip_constant, skip_stray, skip_variable, skip_missing)
