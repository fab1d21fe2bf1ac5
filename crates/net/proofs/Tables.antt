-- Tables in which structures begin, several kinds one after the other: what was written stays while what follows is written, since each part is written
-- behind those before it. Rests on Loops.
use mathlib.Core.Path.{◌≡◌, sym, ap, ◌∙◌}
use mathlib.Core.List.{List}
use Prim.Native.Nat.{ℕ, ◌+◌, ◌≤◌, ◌<◌}
use native.Mathlib.Omega.{arith}
use Rattle.std.specs.Prelude.{Result, Ok, Err}
use lib.ListN.{length, take, drop, set, length-set, length-drop}
use lib.Seq.{take-take, drop-drop, drop-set-add, take-set-le}
use Rattle.semantics.specs.Reading.{Reader}
use Rattle.word.proofs.Slices.{slice-from}
use Rattle.semantics.specs.declared.refusal.Refusal.{Refusal}
use Rattle.expression.specs.Skip.{skipped}
use Rattle.net.specs.Index.{Alike, AreStarted}
use Rattle.net.proofs.Loops.{Collected, collected_goes, collected_stops, collected_end}

-- ── Tables that begin alike ──

module _ {n : ℕ} {l m : List ℕ} (alike : Alike n l m) where
  front_same : (k : ℕ) → k ≤ n → take k l ≡ take k m
  front_same k h = sym (take-take k n l h) ∙ ap (take k) alike.same ∙ take-take k n m h

  pub part_same : (k c : ℕ) → k + c ≤ n → take c (drop k l) ≡ take c (drop k m)
  part_same k c h = sym (slice-from k c l) ∙ ap (drop k) (front_same (k + c) h) ∙ slice-from k c m

-- what is written behind a part leaves what is before it alike
pub alike_still : {n : ℕ} {a b t : List ℕ} (k : ℕ) → Alike n b t → Alike (n + k) a b → Alike n a t
alike_still {n} k first second = record { same = front_same second n (omega arith) ∙ first.same }

-- a part of 32 numbers of a table
pub own-part : (t : List ℕ) (base k c : ℕ) → k + c ≤ 32 → take c (drop k (take 32 (drop base t))) ≡ take c (drop (base + k) t)
own-part t base k c h =
    sym (slice-from k c (take 32 (drop base t)))
    ∙ ap (drop k) (take-take (k + c) 32 (drop base t) h)
    ∙ slice-from k c (drop base t)
    ∙ ap (take c) (drop-drop k base t)

-- ── Structures of one kind ──

-- the i first of n were read, and where they begin was written from a number on
pub record Filled (R : Reader (Unit {0})) (n at i next : ℕ) (table : List ℕ) (base : ℕ) (after : List ℕ) : Type 0 where
  pub collected : Collected R n at i next (drop base after)
  pub long : length after ≡ length table
  pub before : Alike base after table

module _ {R : Reader (Unit {0})} {n at i next : ℕ} {table : List ℕ} {base : ℕ} {after : List ℕ} (a : Filled R n at i next table base after) where
  pub written-long : (x : ℕ) → length (set after (base + i) x) ≡ length table
  written-long x = length-set after (base + i) x ∙ a.long

  written-before : (x : ℕ) → Alike base (set after (base + i) x) table
  written-before x = record { same = take-set-le base after (base + i) x (omega arith) ∙ a.before.same }

  pub filled_end : n ≤ i → AreStarted n R (Ok at) table base (Ok next) after
  filled_end h = record { same = collected_end a.collected h; before = a.before }

  module _ {r : Result ℕ Refusal} (h : i < n) (s : skipped r ≡ R next) where
    pub filled_goes : {p : ℕ} → base + n ≤ length table → r ≡ Ok p → Filled R n at (i + 1) p table base (set after (base + i) next)
    filled_goes l e = record {
      collected = rw (drop-set-add base after i next) (collected_goes a.collected h s (omega (arith, length-drop base after, a.long)) e);
      long = written-long next;
      before = written-before next;
    }

    -- whatever was written where the refused one begins
    pub filled_stops : (x : ℕ) {e : Refusal} → r ≡ Err e → AreStarted n R (Ok at) table base (Err e) (set after (base + i) x)
    filled_stops x e = record { same = collected_stops a.collected h s e; before = written-before x }

-- ── Four kinds, one after the other ──

module _ (base : ℕ) {a b c d : List ℕ} (second : Alike (base + 8) b a) (third : Alike (base + 16) c b) (fourth : Alike (base + 24) d c) where
  pub inputs-stay : (n : ℕ) → n ≤ 8 → take n (take 32 (drop base d)) ≡ take n (drop base a)
  inputs-stay n h = take-take n 32 (drop base d) (omega arith) ∙ part_same fourth base n (omega arith) ∙ part_same third base n (omega arith) ∙ part_same second base n (omega arith)

  pub outputs-stay : (n : ℕ) → n ≤ 8 → take n (drop 8 (take 32 (drop base d))) ≡ take n (drop (base + 8) b)
  outputs-stay n h = own-part d base 8 n (omega arith) ∙ part_same fourth (base + 8) n (omega arith) ∙ part_same third (base + 8) n (omega arith)

  pub guard_stays : (n : ℕ) → n ≤ 8 → take n (drop 16 (take 32 (drop base d))) ≡ take n (drop (base + 16) c)
  guard_stays n h = own-part d base 16 n (omega arith) ∙ part_same fourth (base + 16) n (omega arith)

  pub plan_stays : (n : ℕ) → n ≤ 8 → take n (drop 24 (take 32 (drop base d))) ≡ take n (drop (base + 24) d)
  plan_stays n h = own-part d base 24 n (omega arith)
