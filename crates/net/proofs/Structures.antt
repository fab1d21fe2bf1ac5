-- The rules of passing over an arc, a conjunct and a word by itself: what the answer is, from the word taken and the answers of what
-- follows it. Each rule is one arm of the code.
use mathlib.Core.Path.{◌≡◌, refl, sym, ap, ◌∙◌}
use Prim.Native.Nat.{ℕ, ◌+◌, ◌≤◌, ◌<◌}
use mathlib.Core.Bool.{Bool, true, false, ◌&&◌}
use mathlib.Core.List.{List}
use borrow.Author.Rules.{rules}
use borrow.Author.Tests.{lt-ltb, le-ltb, ne_eqb}
use Rattle.std.specs.Prelude.{Result, Ok, Err}
use lib.Dec.{ltb, eqb}
use lib.ListN.{length, get_or}
use Rattle.semantics.specs.Word.{kind, payload}
use Rattle.semantics.specs.Reading.{Reading, read, refused, then, demand, word_at, word}
use Rattle.semantics.specs.declared.refusal.Refusal.{Refusal}
use Rattle.semantics.specs.declared.refusal.Refusal.TheVariants.{BadWord}
use Rattle.semantics.specs.Answer.{refusing}
use Rattle.expression.specs.Skip.{forget, skipped}
use Rattle.kinds.specs.Taken.{fits_kind, taken, IsTaken}
use Rattle.net.specs.Skim.{starts, skim_range, skim_expression, skim_arc, skim_conjunct, skim_one}
use Rattle.net.proofs.Loops.{Ahead, ahead_turn, ahead_refused}

-- a word that passes two tests, one after the other
pub stricter : (ws : List ℕ) (k : ℕ) (weak ok : ℕ → Bool) → ((p : ℕ) → weak p ≡ true) → (at : ℕ) → word ws k ok at ≡ then (word ws k weak at) (λ p next. demand (ok p) at (read p next))
unfolding word
stricter ws k weak ok all at = by (word_at ws at)
  where
    tested : (t : Bool) (p next : ℕ) → demand (t && ok p) at (read p next) ≡ then (demand (t && weak p) at (read p next)) (λ p next. demand (ok p) at (read p next))
    tested false p next = refl
    tested true p next = rw (all p)

    by : (x : Reading ℕ) → then x (λ w next. demand (eqb (kind w) k && ok (payload w)) at (read (payload w) next)) ≡ then (then x (λ w next. demand (eqb (kind w) k && weak (payload w)) at (read (payload w) next))) (λ p next. demand (ok p) at (read p next))
    by (read w next) = tested (eqb (kind w) k) (payload w) next
    by (refused n q) = refl

module _ {ws : List ℕ} {at k : ℕ} {t : Result ℕ Refusal} (w : IsTaken ws at k t) where
  pub word-told : {u : Result ℕ Refusal} → t ≡ u → word ws k (fits_kind k) at ≡ taken at u
  word-told e = sym w.same ∙ ap (taken at) e

  pub word-refused : {e : Refusal} → t ≡ Err e → word ws k (fits_kind k) at ≡ refusing e
  word-refused e = word-told e

  pub word-taken : {p : ℕ} → t ≡ Ok p → word ws k (fits_kind k) at ≡ read p (at + 1)
  word-taken e = word-told e

-- ── Ranges, one after the other ──

module _ {ws : List ℕ} {n at i next : ℕ} (a : Ahead (skim_range ws) n at i next) (h : i < n) {t : Result ℕ Refusal} (w : IsTaken ws next 3 t) where
  pub ranges_go : {p : ℕ} → t ≡ Ok p → Ahead (skim_range ws) n at (i + 1) (next + 1)
  ranges_go e = ahead_turn a (next + 1) h (ap forget (word-taken w e))

  pub ranges-stop : {e : Refusal} → t ≡ Err e → refusing e ≡ forget (starts n (skim_range ws) at)
  ranges-stop e = ahead_refused a _ _ h (ap forget (word-refused w e))

-- ── Arcs ──

module _ (ws widths : List ℕ) (v at : ℕ) {t : Result ℕ Refusal} (w : IsTaken ws at 5 t) where
  arc-word : word ws 5 (λ q. ltb q (length widths)) at ≡ then (word ws 5 (fits_kind 5) at) (λ p next. demand (ltb p (length widths)) at (read p next))
  unfolding fits_kind
  arc-word = stricter ws 5 (fits_kind 5) (λ q. ltb q (length widths)) (λ p. refl) at

  pub arc-refused : {e : Refusal} → t ≡ Err e → refusing e ≡ skim_arc ws widths v at
  unfolding skim_arc
  arc-refused e = rw (arc-word, word-refused w e)

  pub arc_nowhere : {p : ℕ} → t ≡ Ok p → length widths ≤ p → refusing (BadWord at) ≡ skim_arc ws widths v at
  unfolding skim_arc
  arc_nowhere {p} e h = rw (arc-word, word-taken w e, le-ltb p (length widths) h)

  module _ {p : ℕ} (e : t ≡ Ok p) (h : p < length widths) {r : Result ℕ Refusal} (x : skipped r ≡ skim_expression ws v (at + 1)) where
    pub arc-coefficient : {e : Refusal} → r ≡ Err e → refusing e ≡ skim_arc ws widths v at
    unfolding skim_arc
    arc-coefficient d = rw (arc-word, word-taken w e, lt-ltb p (length widths) h, ← x, d)

    pub arc-components : {next : ℕ} {s : Reading (Unit {0})} → r ≡ Ok next → s ≡ forget (starts (get_or widths p 0) (skim_expression ws v) next) → s ≡ skim_arc ws widths v at
    unfolding skim_arc
    arc-components d y = rw (arc-word, word-taken w e, lt-ltb p (length widths) h, ← x, d) y

-- ── Conjuncts ──

module _ (ws : List ℕ) (v at : ℕ) {t : Result ℕ Refusal} (w : IsTaken ws at 6 t) where
  pub conjunct-refused : {e : Refusal} → t ≡ Err e → refusing e ≡ skim_conjunct ws v at
  unfolding skim_conjunct
  conjunct-refused e = rw (word-refused w e)

  module _ {p : ℕ} (e : t ≡ Ok p) {r : Result ℕ Refusal} (x : skipped r ≡ skim_expression ws v (at + 1)) where
    pub conjunct-left : {e : Refusal} → r ≡ Err e → refusing e ≡ skim_conjunct ws v at
    unfolding skim_conjunct
    conjunct-left d = rw (word-taken w e, ← x, d)

    pub conjunct-right : {next : ℕ} {s : Reading (Unit {0})} → r ≡ Ok next → s ≡ skim_expression ws v next → s ≡ skim_conjunct ws v at
    unfolding skim_conjunct
    conjunct-right d y = rw (word-taken w e, ← x, d) y

-- ── A structure by its code ──

module _ (ws widths : List ℕ) (v k at : ℕ) where
  pub one-arc : {s : Reading (Unit {0})} → k ≡ 5 → s ≡ skim_arc ws widths v at → s ≡ skim_one ws widths v k at
  unfolding skim_one
  one-arc e x = rw e x

  pub one-conjunct : {s : Reading (Unit {0})} → k ≡ 6 → s ≡ skim_conjunct ws v at → s ≡ skim_one ws widths v k at
  unfolding skim_one
  one-conjunct e x = rw e x

  module _ (f : k ≡ 5 → ⊥) (g : k ≡ 6 → ⊥) {t : Result ℕ Refusal} (w : IsTaken ws at k t) where
    pub one-refused : {e : Refusal} → t ≡ Err e → refusing e ≡ skim_one ws widths v k at
    unfolding skim_one
    one-refused e = rw (ne_eqb k 5 f, ne_eqb k 6 g, word-refused w e)

    pub one-taken : {p : ℕ} → t ≡ Ok p → read tt (at + 1) ≡ skim_one ws widths v k at
    unfolding skim_one
    one-taken e = rw (ne_eqb k 5 f, ne_eqb k 6 g, word-taken w e)

pub ruleset passing = (rules, ranges_go, ranges-stop, arc-refused, arc_nowhere, arc-coefficient, arc-components, conjunct-refused, conjunct-left, conjunct-right, one-arc, one-conjunct, one-refused, one-taken)
