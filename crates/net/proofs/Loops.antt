-- Loops that read n structures one after the other: what is still ahead is what was ahead at first. One law for the start, a turn, a
-- refusal and the end, over any reader of one structure.
use mathlib.Core.Path.{◌≡◌, refl, sym, ap, ◌∙◌, fun_ext}
use Prim.Native.Nat.{ℕ, suc, ◌+◌, ◌-◌, ◌≤◌, ◌<◌}
use mathlib.Core.List.{List, [], ◌∷◌, ◌++◌, append_assoc, append-nil}
use native.Mathlib.Numerals.{add-one}
use native.Mathlib.Omega.{arith}
use Rattle.std.specs.Prelude.{Result, Ok, Err}
use lib.ListN.{length, take, set}
use lib.Seq.{take-suc-set}
use Rattle.semantics.specs.Reading.{Reading, read, refused, then, Reader}
use Rattle.semantics.proofs.Spans.{refused-read}
use borrow.Author.Rules.{rules}
use Rattle.semantics.specs.declared.refusal.Refusal.{Refusal}
use Rattle.semantics.specs.Answer.{refusing}
use Rattle.expression.specs.Skip.{forget, skipped}
use Rattle.net.specs.Skim.{changed, starts}

module _ (R : Reader (Unit {0})) where
  -- one structure and the rest
  starts-read : (k at next : ℕ) → R at ≡ read tt next → starts (suc k) R at ≡ changed (λ ps. at ∷ ps) (starts k R next)
  unfolding starts
  starts-read k at next e = rw e (by (starts k R next))
    where
      by : (x : Reading (List ℕ)) → then x (λ ps end. read (at ∷ ps) end) ≡ changed (λ ps. at ∷ ps) x
      by (read ps end) = refl
      by (refused n p) = refl

  starts-refused : (k at m q : ℕ) → R at ≡ refused m q → starts (suc k) R at ≡ refused m q
  unfolding starts
  starts-refused k at m q e = rw e

pub forget-changed : {A B : Type 0} (f : A → B) (x : Reading A) → forget (changed f x) ≡ forget x
forget-changed f (read a next) = refl
forget-changed f (refused n p) = refl

pub changed-refused : {A B : Type 0} (f : A → B) (x : Reading A) {n p : ℕ} → changed f x ≡ refused n p → x ≡ refused n p
changed-refused f (read a next) {n} {p} e = refused-read n p (f a) next (sym e)
changed-refused f (refused m q) {n} {p} e = let a : m ≡ n = cc in let b : q ≡ p = cc in ap (λ (k : ℕ). refused k q) a ∙ ap (refused n) b

pub changed-changed : {A B C : Type 0} (f : A → B) (g : B → C) (x : Reading A) → changed g (changed f x) ≡ changed (λ a. g (f a)) x
changed-changed f g (read a next) = refl
changed-changed f g (refused n p) = refl

pub changed-same : {A : Type 0} (x : Reading A) → changed (λ a. a) x ≡ x
changed-same (read a next) = refl
changed-same (refused n p) = refl

-- ── Only the end is kept ──

pub record Ahead (R : Reader (Unit {0})) (n at i next : ℕ) : Type 0 where
  pub inside : i ≤ n
  pub same : forget (starts (n - i) R next) ≡ forget (starts n R at)

module _ {R : Reader (Unit {0})} {n at i next : ℕ} (a : Ahead R n at i next) where
  pub ahead_turn : (p : ℕ) → i < n → R next ≡ read tt p → Ahead R n at (i + 1) p
  ahead_turn p h e =
      let d : n - i ≡ suc (n - (i + 1)) = omega arith in
      record {
        inside = omega arith;
        same = sym (ap (λ (k : ℕ). forget (starts k R next)) d ∙ ap forget (starts-read R (n - (i + 1)) next p e) ∙ forget-changed (λ ps. next ∷ ps) (starts (n - (i + 1)) R p)) ∙ a.same;
      }

  pub ahead_refused : (m q : ℕ) → i < n → R next ≡ refused m q → refused m q ≡ forget (starts n R at)
  ahead_refused m q h e =
      let d : n - i ≡ suc (n - (i + 1)) = omega arith in
      sym (ap (λ (k : ℕ). forget (starts k R next)) d ∙ ap forget (starts-refused R (n - (i + 1)) next m q e)) ∙ a.same

  pub ahead_end : n ≤ i → read tt next ≡ forget (starts n R at)
  unfolding starts
  ahead_end h =
      let d : n - i ≡ 0 = omega arith in
      sym (ap (λ (k : ℕ). forget (starts k R next)) d) ∙ a.same

-- ── What was read is kept too ──

-- `F k` reads k structures; `xs` is what the i first of them gave
pub record Gathered {B : Type 0} (F : ℕ → Reader (List B)) (n at i next : ℕ) (xs : List B) : Type 0 where
  pub inside : i ≤ n
  pub same : changed (λ ps. xs ++ ps) (F (n - i) next) ≡ F n at

pub gathered-start : {B : Type 0} (F : ℕ → Reader (List B)) (n at : ℕ) → Gathered F n at 0 at []
gathered-start {B} F n at =
    let e : n - 0 ≡ n = omega arith in
    record { inside = omega arith; same = ap (λ (k : ℕ). changed (λ ps. ps) (F k at)) e ∙ changed-same (F n at) }

module _ {B : Type 0} {F : ℕ → Reader (List B)} {n at i next : ℕ} {xs : List B} (a : Gathered F n at i next xs) where
  pub gathered_turn : (p : ℕ) (b : B) → i < n → ((k : ℕ) → F (suc k) next ≡ changed (λ ps. b ∷ ps) (F k p)) → Gathered F n at (i + 1) p (xs ++ (b ∷ []))
  gathered_turn p b h e =
      let d : n - i ≡ suc (n - (i + 1)) = omega arith in
      record {
        inside = omega arith;
        same =
            ap (λ (f : List B → List B). changed f (F (n - (i + 1)) p)) (fun_ext (λ ps. append_assoc xs (b ∷ []) ps))
            ∙ sym (changed-changed (λ ps. b ∷ ps) (λ ps. xs ++ ps) (F (n - (i + 1)) p))
            ∙ sym (ap (λ (k : ℕ). changed (λ ps. xs ++ ps) (F k next)) d ∙ ap (changed (λ ps. xs ++ ps)) (e (n - (i + 1))))
            ∙ a.same;
      }

  pub gathered-refused : (m q : ℕ) → i < n → ((k : ℕ) → F (suc k) next ≡ refused m q) → refused m q ≡ F n at
  gathered-refused m q h e =
      let d : n - i ≡ suc (n - (i + 1)) = omega arith in
      sym (ap (λ (k : ℕ). changed (λ ps. xs ++ ps) (F k next)) d ∙ ap (changed (λ ps. xs ++ ps)) (e (n - (i + 1)))) ∙ a.same

  pub gathered-end : n ≤ i → F 0 next ≡ read [] next → read xs next ≡ F n at
  gathered-end h e =
      let d : n - i ≡ 0 = omega arith in
      sym (ap (λ (k : ℕ). changed (λ ps. xs ++ ps) (F k next)) d ∙ ap (changed (λ ps. xs ++ ps)) e ∙ ap (λ (ps : List B). read ps next) (append-nil xs)) ∙ a.same

-- ── The positions are kept ──

pub record Collected (R : Reader (Unit {0})) (n at i next : ℕ) (begins : List ℕ) : Type 0 where
  pub gathered : Gathered (λ k. starts k R) n at i next (take i begins)

pub collected_start : (R : Reader (Unit {0})) (n at : ℕ) (begins : List ℕ) → Collected R n at 0 at begins
collected_start R n at begins = record { gathered = gathered-start (λ k. starts k R) n at }

-- one more is written
pub take-set : {A : Type 0} (l : List A) (i : ℕ) (a : A) → i < length l → take (i + 1) (set l i a) ≡ take i l ++ (a ∷ [])
take-set l i a h = ap (λ (k : ℕ). take k (set l i a)) (add-one i) ∙ take-suc-set l i a h

module _ {R : Reader (Unit {0})} {n at i next : ℕ} {begins : List ℕ} (a : Collected R n at i next begins) where
  pub collected_turn : (p : ℕ) → i < n → n ≤ length begins → R next ≡ read tt p → Collected R n at (i + 1) p (set begins i next)
  collected_turn p h l e = record { gathered = rw (take-set begins i next (omega arith)) (gathered_turn a.gathered p next h (λ k. starts-read R k next p e)) }

  pub collected_refused : (m q : ℕ) → i < n → R next ≡ refused m q → refused m q ≡ starts n R at
  collected_refused m q h e = gathered-refused a.gathered m q h (λ k. starts-refused R k next m q e)

  pub collected_end : n ≤ i → read (take n begins) next ≡ starts n R at
  unfolding starts
  collected_end h =
      let g = a.gathered.inside in
      let j : n ≡ i = omega arith in
      ap (λ (k : ℕ). read (take k begins) next) j ∙ gathered-end a.gathered h refl

-- ── By the answers of the code ──

module _ {R : Reader (Unit {0})} {n at i next : ℕ} {r : Result ℕ Refusal} (a : Ahead R n at i next) (h : i < n) (s : skipped r ≡ R next) where
  pub ahead_goes : {p : ℕ} → r ≡ Ok p → Ahead R n at (i + 1) p
  ahead_goes {p} e = ahead_turn a p h (sym s ∙ ap skipped e)

  pub ahead_stops : {e : Refusal} → r ≡ Err e → refusing e ≡ forget (starts n R at)
  ahead_stops e = ahead_refused a _ _ h (sym s ∙ ap skipped e)

module _ {R : Reader (Unit {0})} {n at i next : ℕ} {begins : List ℕ} {r : Result ℕ Refusal} (a : Collected R n at i next begins) (h : i < n) (s : skipped r ≡ R next) where
  pub collected_goes : {p : ℕ} → n ≤ length begins → r ≡ Ok p → Collected R n at (i + 1) p (set begins i next)
  collected_goes {p} l e = collected_turn a p h l (sym s ∙ ap skipped e)

  pub collected_stops : {e : Refusal} → r ≡ Err e → refusing e ≡ starts n R at
  collected_stops e = collected_refused a _ _ h (sym s ∙ ap skipped e)

pub ruleset looping = (rules, ahead_goes, ahead_stops, ahead_end, collected_goes, collected_stops, collected_end)
