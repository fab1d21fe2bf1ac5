-- The tries of one element, one after the other: what is ahead is what was ahead at first. A turn pays for one try and, where it goes on, for what the
-- rest of the plan makes of it; past the budget the outcome is settled whatever is left.
use mathlib.Core.Path.{◌≡◌, refl, sym, ap, ◌∙◌, subst}
use mathlib.Core.Bool.{true, false}
use mathlib.Core.List.{List, [], ◌∷◌, ◌++◌}
use mathlib.Core.Option.{Option, none, some}
use Prim.Native.Nat.{ℕ, suc, ◌+◌, ◌*◌, ◌-◌, ◌≤◌, ◌<◌}
use native.Mathlib.Omega.{arith}
use native.Mathlib.Nat.{mul-le-mul_right}
use native.Mathlib.Numerals.{add-one}
use lib.IntN.{ℤ}
use lib.ListN.{length, get_or, drop, drop_of_length-le}
use lib.Seq.{drop-cons, drop-drop}
use Rattle.semantics.specs.Tries.{Partial, count_tries}
use Rattle.rows.specs.Rows.{Listing, add_all, listing_of}
use Rattle.rows.proofs.Listings.{add_append}
use Rattle.leaves.specs.declared.progress.Progress.{Progress}
use Rattle.leaves.specs.Leaf.{Outcome, exhausted, reached, settle, outcome_of, Held, Unspent, Ended}
use Rattle.leaves.proofs.Settling.{settle_in, settle_past, settled_on, settled_past}

-- the rows of the tries that go on, one after the other
unfoldable pub rows_over : (Partial → List (List ℤ)) → List (Option Partial) → List (List ℤ)
rows_over g [] = []
rows_over g (none ∷ os) = rows_over g os
rows_over g (some p ∷ os) = g p ++ rows_over g os

-- the outcome of the tries os, from t tries and a listing on
abbrev pub after : ℕ → ℕ → (Partial → ℕ) → (Partial → List (List ℤ)) → List (Option Partial) → ℕ → Listing → Outcome
after budget most f g os t l = settle budget (t + count_tries f os) (add_all most (rows_over g os) l)

-- ── One try ──

after_nothing : (budget most : ℕ) (f : Partial → ℕ) (g : Partial → List (List ℤ)) (os : List (Option Partial)) (t : ℕ) (l : Listing) → after budget most f g (none ∷ os) t l ≡ after budget most f g os (t + 1) l
unfolding count_tries rows_over
after_nothing budget most f g os t l = let e : t + suc (count_tries f os) ≡ t + 1 + count_tries f os = omega arith in ap (λ (k : ℕ). settle budget k (add_all most (rows_over g os) l)) e

after_on : (budget most : ℕ) (f : Partial → ℕ) (g : Partial → List (List ℤ)) (q : Partial) (os : List (Option Partial)) (t : ℕ) (l : Listing) → after budget most f g (some q ∷ os) t l ≡ after budget most f g os (t + 1 + f q) (add_all most (g q) l)
unfolding count_tries rows_over
after_on budget most f g q os t l =
    let e : t + suc (f q + count_tries f os) ≡ t + 1 + f q + count_tries f os = omega arith in
    ap (λ (k : ℕ). settle budget k (add_all most (g q ++ rows_over g os) l)) e ∙ ap (settle budget (t + 1 + f q + count_tries f os)) (add_append most (g q) (rows_over g os) l)

-- a try costs one, and more where it goes on
cost_some : (f : Partial → ℕ) (o : Option Partial) (os : List (Option Partial)) → 1 ≤ count_tries f (o ∷ os)
unfolding count_tries
cost_some f none os = omega arith
cost_some f (some q) os = omega arith

cost_on : (f : Partial → ℕ) (q : Partial) (os : List (Option Partial)) → 1 + f q ≤ count_tries f (some q ∷ os)
unfolding count_tries
cost_on f q os = omega arith

-- ── The words beyond the rows ──

-- what stayed beyond fewer rows stayed beyond more
pub beyond-more : (n k w : ℕ) (m m' : List ℕ) → n ≤ k → drop (n * w) m ≡ drop (n * w) m' → drop (k * w) m ≡ drop (k * w) m'
beyond-more n k w m m' h e =
    let l : n * w ≤ k * w = mul-le-mul_right w h in
    let s : n * w + (k * w - n * w) ≡ k * w = omega arith in
    ap (λ (j : ℕ). drop j m) (sym s) ∙ sym (drop-drop (k * w - n * w) (n * w) m) ∙ ap (drop (k * w - n * w)) e ∙ drop-drop (k * w - n * w) (n * w) m' ∙ ap (λ (j : ℕ). drop j m') s

-- ── The loop ──

pub record Trying (w most budget : ℕ) (f : Partial → ℕ) (g : Partial → List (List ℤ)) (os : List (Option Partial)) (n₀ : ℕ) (m₀ : List ℕ) (t₀ : ℕ) (l₀ : Listing) (i : ℕ) (cur : Progress) (menu : List ℕ) : Type 0 where
  pub held : Held w most cur.rows menu
  pub unspent : Unspent budget cur
  pub grown : n₀ ≤ cur.rows
  pub beyond : drop (cur.rows * w) menu ≡ drop (cur.rows * w) m₀
  pub as_long : length menu ≡ length m₀
  pub near : i ≤ length os
  pub same_end : after budget most f g (drop i os) cur.tries (listing_of w cur.rows cur.full menu) ≡ after budget most f g os t₀ l₀

pub trying_start : (w most budget : ℕ) (f : Partial → ℕ) (g : Partial → List (List ℤ)) (os : List (Option Partial)) (s : Progress) (menu : List ℕ) → Held w most s.rows menu → Unspent budget s → Trying w most budget f g os s.rows menu s.tries (listing_of w s.rows s.full menu) 0 s menu
trying_start w most budget f g os s menu h u = record { held = h; unspent = u; grown = omega arith; beyond = refl; as_long = refl; near = omega arith; same_end = refl }

-- the outcome of a search that goes on
outcome-on : (w : ℕ) (s : Progress) (m : List ℕ) → s.spent ≡ false → outcome_of w s m ≡ reached s.tries (listing_of w s.rows s.full m)
outcome-on w s m e = rw e

module _ {w most budget : ℕ} {f : Partial → ℕ} {g : Partial → List (List ℤ)} {os : List (Option Partial)} {n₀ : ℕ} {m₀ : List ℕ} {t₀ : ℕ} {l₀ : Listing} {i : ℕ} {cur : Progress} {menu : List ℕ} (T : Trying w most budget f g os n₀ m₀ t₀ l₀ i cur menu) where
  pub ended_all : length os ≤ i → Ended w most budget n₀ m₀ t₀ l₀ (count_tries f os) (rows_over g os) cur menu
  unfolding count_tries rows_over add_all
  ended_all h =
      let n : drop i os ≡ [] = drop_of_length-le os {i = i} h in
      let e : settle budget (cur.tries + 0) (listing_of w cur.rows cur.full menu) ≡ after budget most f g os t₀ l₀ = rw n at T.same_end in
      let z : cur.tries + 0 ≡ cur.tries = omega arith in
      record {
        kept = T.held.kept;
        within = T.held.within;
        grown = T.grown;
        beyond = T.beyond;
        outcome = outcome-on w cur menu T.unspent.on ∙ sym (settle_in budget cur.tries (listing_of w cur.rows cur.full menu) T.unspent.paid) ∙ ap (λ (k : ℕ). settle budget k (listing_of w cur.rows cur.full menu)) (sym z) ∙ e;
      }

  module _ (h : i < length os) where
    next : drop i os ≡ get_or os i none ∷ drop (i + 1) os
    next = drop-cons os i none h ∙ rw (add-one i)

    -- the budget does not cover the next try
    pub ended_spent : budget ≤ cur.tries → Ended w most budget n₀ m₀ t₀ l₀ (count_tries f os) (rows_over g os) (record { tries = cur.tries; rows = cur.rows; spent = true; full = cur.full }) menu
    ended_spent l =
        let c = cost_some f (get_or os i none) (drop (i + 1) os) in
        let e : after budget most f g (get_or os i none ∷ drop (i + 1) os) cur.tries (listing_of w cur.rows cur.full menu) ≡ after budget most f g os t₀ l₀ = rw next at T.same_end in
        record {
          kept = T.held.kept;
          within = T.held.within;
          grown = T.grown;
          beyond = T.beyond;
          outcome = sym (settle_past budget (cur.tries + count_tries f (get_or os i none ∷ drop (i + 1) os)) _ (omega arith)) ∙ e;
        }

    -- a try that does not go on
    pub trying_skip : get_or os i none ≡ none → cur.tries < budget → Trying w most budget f g os n₀ m₀ t₀ l₀ (i + 1) (record { tries = cur.tries + 1; rows = cur.rows; spent = cur.spent; full = cur.full }) menu
    trying_skip o l = record {
      held = T.held;
      unspent = record { paid = omega arith; on = T.unspent.on };
      grown = T.grown;
      beyond = T.beyond;
      as_long = T.as_long;
      near = omega arith;
      same_end =
          sym (after_nothing budget most f g (drop (i + 1) os) cur.tries (listing_of w cur.rows cur.full menu))
          ∙ ap (λ (x : Option Partial). after budget most f g (x ∷ drop (i + 1) os) cur.tries (listing_of w cur.rows cur.full menu)) (sym o)
          ∙ ap (λ (xs : List (Option Partial)). after budget most f g xs cur.tries (listing_of w cur.rows cur.full menu)) (sym next)
          ∙ T.same_end;
    }

    -- a try that goes on
    module _ (q : Partial) (o : get_or os i none ≡ some q) {r : Progress} {m' : List ℕ} (E : Ended w most budget cur.rows menu (cur.tries + 1) (listing_of w cur.rows cur.full menu) (f q) (g q) r m') where
      ahead : after budget most f g (some q ∷ drop (i + 1) os) cur.tries (listing_of w cur.rows cur.full menu) ≡ after budget most f g os t₀ l₀
      ahead =
          ap (λ (x : Option Partial). after budget most f g (x ∷ drop (i + 1) os) cur.tries (listing_of w cur.rows cur.full menu)) (sym o)
          ∙ ap (λ (xs : List (Option Partial)). after budget most f g xs cur.tries (listing_of w cur.rows cur.full menu)) (sym next)
          ∙ T.same_end

      further : n₀ ≤ r.rows
      further = let a = T.grown in let b = E.grown in omega arith

      untouched : drop (r.rows * w) m' ≡ drop (r.rows * w) m₀
      untouched = E.beyond ∙ beyond-more cur.rows r.rows w menu m₀ E.grown T.beyond

      pub ended-stop : r.spent ≡ true → Ended w most budget n₀ m₀ t₀ l₀ (count_tries f os) (rows_over g os) r m'
      ended-stop d =
          let x : exhausted ≡ settle budget (cur.tries + 1 + f q) (add_all most (g q) (listing_of w cur.rows cur.full menu)) = rw d at E.outcome in
          let p = settled_past budget (cur.tries + 1 + f q) _ x in
          let c = cost_on f q (drop (i + 1) os) in
          let e : outcome_of w r m' ≡ exhausted = rw d in
          record {
            kept = E.kept;
            within = E.within;
            grown = further;
            beyond = untouched;
            outcome = e ∙ sym (settle_past budget (cur.tries + count_tries f (some q ∷ drop (i + 1) os)) _ (omega arith)) ∙ ahead;
          }

      pub trying_turn : length m' ≡ length menu → r.spent ≡ false → Trying w most budget f g os n₀ m₀ t₀ l₀ (i + 1) r m'
      trying_turn k d =
          let x = settled_on budget r.tries (cur.tries + 1 + f q) (listing_of w r.rows r.full m') (add_all most (g q) (listing_of w cur.rows cur.full menu)) (sym (outcome-on w r m' d) ∙ E.outcome) in
          let t = x.tries in
          let p = x.paid in
          let room = T.held.room in
          record {
            held = record { kept = E.kept; within = E.within; room = omega arith };
            unspent = record { paid = omega arith; on = d };
            grown = further;
            beyond = untouched;
            as_long = k ∙ T.as_long;
            near = omega arith;
            same_end =
                ap (λ (j : ℕ). after budget most f g (drop (i + 1) os) j (listing_of w r.rows r.full m')) t
                ∙ ap (after budget most f g (drop (i + 1) os) (cur.tries + 1 + f q)) x.listing
                ∙ sym (after_on budget most f g q (drop (i + 1) os) cur.tries (listing_of w cur.rows cur.full menu))
                ∙ ahead;
          }

-- the same, of a state and a menu that are equal
pub trying_same : {w most budget : ℕ} {f : Partial → ℕ} {g : Partial → List (List ℤ)} {os : List (Option Partial)} {n₀ : ℕ} {m₀ : List ℕ} {t₀ : ℕ} {l₀ : Listing} {i : ℕ} {cur cur' : Progress} {menu menu' : List ℕ} → cur' ≡ cur → menu' ≡ menu → Trying w most budget f g os n₀ m₀ t₀ l₀ i cur menu → Trying w most budget f g os n₀ m₀ t₀ l₀ i cur' menu'
trying_same {w} {most} {budget} {f} {g} {os} {n₀} {m₀} {t₀} {l₀} {i} {cur} {cur'} {menu} {menu'} e d T =
    subst (λ (c : Progress). Trying w most budget f g os n₀ m₀ t₀ l₀ i c menu') (sym e) (subst (λ (m : List ℕ). Trying w most budget f g os n₀ m₀ t₀ l₀ i cur m) (sym d) T)
