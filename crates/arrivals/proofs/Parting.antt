-- The rules of the first words of components: what is still to be read is the rest of what is read, and the words so far begin what came before it.
use mathlib.Core.Path.{◌≡◌, sym, ◌∙◌, subst}
use mathlib.Core.List.{List, [], ◌∷◌, ◌++◌, append_assoc, append-nil}
use Prim.Native.Nat.{ℕ, suc, ◌+◌, ◌-◌, ◌≤◌, ◌<◌}
use native.Mathlib.Omega.{arith}
use lib.ListN.{length, get_or, set, take, length-set}
use Rattle.semantics.specs.Expression.{Expression}
use Rattle.semantics.specs.Reading.{read, several}
use Rattle.semantics.specs.ReadNet.{read_expression}
use Rattle.semantics.proofs.Spans.{refused-read, several_split}
use Rattle.std.specs.Prelude.{Result, Ok, Err}
use Rattle.semantics.specs.declared.refusal.Refusal.{Refusal}
use Rattle.semantics.specs.Answer.{number_of, position_of}
use Rattle.expression.specs.Skip.{forget, skipped, Ahead, Skips}
use Rattle.expression.proofs.Laws.{first_word, passed-read, passed-refused}
use Rattle.net.proofs.Loops.{take-set}
use Rattle.arrivals.specs.Step.{Begin, IsParts}

-- the words of i expressions are written, and the rest is ahead
pub record Parting (ws : List ℕ) (v at n i next : ℕ) (parts : List ℕ) : Type 0 where
  pub full : length parts ≡ 4
  pub near : i ≤ n
  pub ahead : (es : List Expression) (end : ℕ) → several n (read_expression ws v) at ≡ read es end → (fs : List Expression) × (several (n - i) (read_expression ws v) next ≡ read fs end) × ((ps : List ℕ) → Begin ps fs → Begin (take i parts ++ ps) es)

pub parting_start : (ws : List ℕ) (v at n : ℕ) (parts : List ℕ) → length parts ≡ 4 → Parting ws v at n 0 at parts
parting_start ws v at n parts l =
    let z : n - 0 ≡ n = omega arith in
    record { full = l; near = omega arith; ahead = λ es end h. (es, rw z h, λ ps b. b) }

module _ {ws : List ℕ} {v at n i next : ℕ} {parts : List ℕ} (a : Parting ws v at n i next parts) where
  pub parting_ends : n ≤ i → IsParts ws v at n parts
  unfolding several
  parting_ends h = record { full = a.full; begin = λ es end r. by es end (a.ahead es end r) }
    where
      by : (es : List Expression) (end : ℕ) → (fs : List Expression) × (several (n - i) (read_expression ws v) next ≡ read fs end) × ((ps : List ℕ) → Begin ps fs → Begin (take i parts ++ ps) es) → Begin (take n parts) es
      by es end f =
          let near = a.near in
          let z : n - i ≡ 0 = omega arith in
          let k : i ≡ n = omega arith in
          let s : read [] next ≡ read f.0 end = rw z at f.1 in
          let e : [] ≡ f.0 = cc in
          let b : Begin [] f.0 = subst (λ (fs : List Expression). Begin [] fs) e tt in
          rw (k, append-nil (take n parts)) at (f.2 [] b)

  module _ (k : i < n) (s : Result ℕ Refusal) (h : skipped s ≡ forget (read_expression ws v next)) where
    pub parting_stops : {e : Refusal} → s ≡ Err e → IsParts ws v at n parts
    parting_stops {e = r} d = record { full = a.full; begin = λ es end r. by es end (a.ahead es end r) }
      where
        by : (es : List Expression) (end : ℕ) → (fs : List Expression) × (several (n - i) (read_expression ws v) next ≡ read fs end) × ((ps : List ℕ) → Begin ps fs → Begin (take i parts ++ ps) es) → Begin (take n parts) es
        by es end f =
            let z : n - i ≡ suc (n - (i + 1)) = omega arith in
            let t = several_split (read_expression ws v) (n - (i + 1)) next f.0 end (rw z at f.1) in
            refused-read (number_of r) (position_of r) t.first t.mid (sym (passed-refused (read_expression ws v next) s h d) ∙ t.reads)

    pub parting_turn : {p : ℕ} → s ≡ Ok p → n ≤ 4 → Parting ws v at n (i + 1) p (set parts i (get_or ws next 0))
    parting_turn {p} d l =
        let full = a.full in
        record { full = length-set parts i (get_or ws next 0) ∙ full; near = omega arith; ahead = λ es end r. by es end (a.ahead es end r) }
      where
        by : (es : List Expression) (end : ℕ) → (fs : List Expression) × (several (n - i) (read_expression ws v) next ≡ read fs end) × ((ps : List ℕ) → Begin ps fs → Begin (take i parts ++ ps) es) → (fs : List Expression) × (several (n - (i + 1)) (read_expression ws v) p ≡ read fs end) × ((ps : List ℕ) → Begin ps fs → Begin (take (i + 1) (set parts i (get_or ws next 0)) ++ ps) es)
        by es end f =
            let full = a.full in
            let z : n - i ≡ suc (n - (i + 1)) = omega arith in
            let t = several_split (read_expression ws v) (n - (i + 1)) next f.0 end (rw z at f.1) in
            let u = passed-read (read_expression ws v next) s h d in
            let g : read t.first t.mid ≡ read u.0 p = sym t.reads ∙ u.1 in
            let m : t.mid ≡ p = cc in
            let w = first_word ws v next t.reads in (
              t.others,
              rw (← m) t.rest,
              λ ps b.
                  rw (take-set parts i (get_or ws next 0) (omega arith), append_assoc (take i parts) (get_or ws next 0 ∷ []) ps)
                  (f.2 (get_or ws next 0 ∷ ps) (subst (λ (fs : List Expression). Begin (get_or ws next 0 ∷ ps) fs) (sym t.whole) (w, b))),
            )

-- where an expression that was passed over ends
pub skip_ahead : {ws : List ℕ} {at p : ℕ} {s : Result ℕ Refusal} → Skips ws at s → s ≡ Ok p → Ahead ws at p
skip_ahead {ws} {at} h e = subst (Skips ws at) e h
