-- The rules of a leaf: an enabled binding is one row more, any other none; where a row had no room the listing stays over.
use mathlib.Core.Path.{◌≡◌, refl, sym, ap, ◌∙◌, subst}
use mathlib.Core.Bool.{Bool, true, false}
use mathlib.Core.List.{List, [], ◌∷◌}
use Prim.Native.Nat.{ℕ, ◌+◌}
use native.Mathlib.Omega.{arith}
use lib.IntN.{ℤ}
use lib.ListN.{length}
use Rattle.semantics.specs.Lists.{cons_if}
use Rattle.occurrence.specs.Answers.{IsEnabledAt}
use Rattle.rows.specs.declared.insert.Inserted.{Inserted}
use Rattle.rows.specs.Rows.{values_of_words, rows_of, listed, over, add_row, add_all, listing_of, Added}
use Rattle.rows.proofs.Listings.{add-over}
use Rattle.leaves.specs.Leaf.{reached, settle, outcome_of, Held, Unspent, Ended, progress, IsLeaf}
use Rattle.leaves.proofs.Settling.{settle_in}

-- rows that a leaf finds
abbrev pub rows : ℕ → Bool → Inserted
rows n full = record { rows = n; full = full }

module _ (ws ps conjuncts inputs ms begins : List ℕ) (most : ℕ) (b : List ℕ) (n : ℕ) (full : Bool) (m : List ℕ) (h : Held (length b) most n m) where
  -- nothing changes
  same : (budget t : ℕ) (spent : Bool) → Unspent budget (progress t spent (rows n full)) → (l : List (List ℤ)) → add_all most l (listing_of (length b) n full m) ≡ listing_of (length b) n full m → Ended (length b) most budget n m t (listing_of (length b) n full m) 0 l (progress t spent (rows n full)) m
  same budget t spent p l e =
      let z : t + 0 ≡ t = omega arith in
      let d : outcome_of (length b) (progress t spent (rows n full)) m ≡ reached t (listing_of (length b) n full m) = rw p.on in
      record {
        kept = h.kept;
        within = h.within;
        grown = omega arith;
        beyond = refl;
        outcome = d ∙ sym (settle_in budget t (listing_of (length b) n full m) p.paid) ∙ ap (λ (k : ℕ). settle budget k (listing_of (length b) n full m)) (sym z) ∙ ap (settle budget (t + 0)) (sym e);
      }

  pub leaf_over : full ≡ true → IsLeaf ws ps conjuncts inputs ms begins most b (rows n full) m (rows n full) m
  leaf_over f = record { ended = λ budget t spent p u g. let l : listing_of (length b) n full m ≡ over = rw f in same budget t spent p (cons_if u (values_of_words b) []) (ap (add_all most (cons_if u (values_of_words b) [])) l ∙ add-over most (cons_if u (values_of_words b) []) ∙ sym l) }

  module _ {r : Bool} (e : IsEnabledAt ws ps conjuncts inputs ms begins b r) where
    pub leaf_disabled : r ≡ false → IsLeaf ws ps conjuncts inputs ms begins most b (rows n full) m (rows n full) m
    unfolding add_all
    leaf_disabled d = record { ended = λ budget t spent p u g. let f : u ≡ false = sym (g r e) ∙ d in subst (λ (v : Bool). Ended (length b) most budget n m t (listing_of (length b) n full m) 0 (cons_if v (values_of_words b) []) (progress t spent (rows n full)) m) (sym f) (same budget t spent p [] refl) }

    pub leaf_added : r ≡ true → full ≡ false → {x : Inserted} {m' : List ℕ} → Added most n m b x.rows x.full m' → IsLeaf ws ps conjuncts inputs ms begins most b (rows n full) m x m'
    unfolding add_all
    leaf_added d f {x} {m'} a = record { ended = λ budget t spent p u g. let k : u ≡ true = sym (g r e) ∙ d in subst (λ (v : Bool). Ended (length b) most budget n m t (listing_of (length b) n full m) 0 (cons_if v (values_of_words b) []) (progress t spent x) m') (sym k) (added budget t spent p) }
      where
        added : (budget t : ℕ) (spent : Bool) → Unspent budget (progress t spent (rows n full)) → Ended (length b) most budget n m t (listing_of (length b) n full m) 0 (values_of_words b ∷ []) (progress t spent x) m'
        added budget t spent p =
            let z : t + 0 ≡ t = omega arith in
            let o : outcome_of (length b) (progress t spent x) m' ≡ reached t (listing_of (length b) x.rows x.full m') = rw p.on in
            let g : listing_of (length b) n full m ≡ listed (rows_of (length b) n m) = rw f in
            let y : listing_of (length b) x.rows x.full m' ≡ add_row most (values_of_words b) (listed (rows_of (length b) n m)) = a.listing in
            record {
              kept = a.kept;
              within = a.within;
              grown = a.grown;
              beyond = a.beyond;
              outcome =
                  o
                  ∙ sym (settle_in budget t (listing_of (length b) x.rows x.full m') p.paid)
                  ∙ ap (λ (k : ℕ). settle budget k (listing_of (length b) x.rows x.full m')) (sym z)
                  ∙ ap (settle budget (t + 0)) (y ∙ ap (add_row most (values_of_words b)) (sym g));
            }
