-- The rules of the search: at the end of the plan it is a leaf, and before it the tries of the next element. What they come to is what semantics says of
-- the plan from the partial binding on.
use mathlib.Core.Path.{◌≡◌, sym, ap, ◌∙◌, subst}
use mathlib.Core.Bool.{Bool, true, false}
use mathlib.Core.List.{List, [], map, Memᴰ}
use mathlib.Core.Option.{Option, none, some}
use Prim.Native.Nat.{ℕ, ◌+◌, ◌≤◌, ◌<◌}
use native.Mathlib.Omega.{arith}
use lib.IntN.{ℤ}
use lib.ListN.{length, get_or, take, drop, drop_of_length-le}
use lib.Seq.{take_all}
use Rattle.semantics.specs.Lists.{Every, cons_if}
use Rattle.semantics.specs.Word.{payload, bits}
use Rattle.semantics.specs.Expression.{given, house_table}
use Rattle.semantics.specs.Net.{Element}
use Rattle.semantics.specs.ReadNet.{sort_of}
use Rattle.semantics.specs.Order.{in_ranges}
use Rattle.semantics.specs.Enabling.{is_enabled}
use Rattle.semantics.specs.Tries.{Partial, partly, binding_of, tries, count_tries}
use Rattle.semantics.specs.Calls.{Situation}
use Rattle.semantics.proofs.Members.{number-member}
use Rattle.semantics.proofs.Settled.{every-kept, kept-length}
use Rattle.semantics.proofs.Extending.{Extends, tries_extend}
use Rattle.semantics.proofs.Leaves.{Sound, sound_fits, sound_next, sound_leaf}
use Rattle.semantics.proofs.Menu.{binding-full}
use Rattle.net.specs.Places.{PlacesFit}
use Rattle.evaluation.specs.Evaluate.{lent}
use Rattle.gathering.specs.Gather.{Known}
use Rattle.gathering.proofs.Gathering.{known_kept, known_stays}
use Rattle.occurrence.specs.Answers.{IsEnabledAt}
use Rattle.elements.specs.declared.element.Element.{Element as CodeElement}
use Rattle.elements.specs.Bound.{sorted}
use Rattle.word.specs.Fields.{IsValue}
use Rattle.net.specs.Standing.{HasConjunct, HasArc}
use Rattle.net.proofs.Standing.{inputs-stand, conjuncts-stand}
use Rattle.rows.specs.declared.insert.Inserted.{Inserted}
use Rattle.rows.specs.Rows.{values_of_words, Listing, listing_of}
use Rattle.arrivals.specs.declared.step.Step.{Step}
use Rattle.tries.specs.Partial.{partial_of, IsTried, IsSaved}
use Rattle.tries.proofs.Slots.{slots_lent}
use Rattle.arrivals.specs.Step.{Noted, Aims, Safe, Ready, tries_by, IsArrival}
use Rattle.arrivals.specs.World.{World}
use Rattle.arrivals.proofs.Tries.{aims, arrival_ready, arrival_tries, tries-length}
use Rattle.leaves.specs.declared.progress.Progress.{Progress}
use Rattle.search.specs.Search.{cost_from, rows_from, Settling}
use Rattle.leaves.specs.Leaf.{Held, Unspent, Ended, progress, IsLeaf}
use Rattle.search.proofs.Trying.{rows_over}
use Rattle.search.proofs.Worlds.{few-inputs, next-element, as_many}
use Rattle.search.proofs.Values.{slots_values, full-lent}
use Rattle.search.proofs.Settled.{settling_next, told-settled}
use Rattle.search.proofs.Steps.{cost_step, rows_step, cost_leaf, rows_leaf}

-- the same, of costs and rows that are equal
pub ended_same : {w most budget n : ℕ} {m : List ℕ} {t : ℕ} {l : Listing} {cost : ℕ} {rows : List (List ℤ)} {s' : Progress} {m' : List ℕ} {cost' : ℕ} {rows' : List (List ℤ)} → cost' ≡ cost → rows' ≡ rows → Ended w most budget n m t l cost rows s' m' → Ended w most budget n m t l cost' rows' s' m'
ended_same {w} {most} {budget} {n} {m} {t} {l} {cost} {rows} {s'} {m'} {cost'} {rows'} e f h =
    subst (λ (k : ℕ). Ended w most budget n m t l k rows' s' m') (sym e) (subst (λ (rs : List (List ℤ)). Ended w most budget n m t l cost rs s' m') (sym f) h)

-- what is known, in lists that are equal
pub known_same : {ws ps bs ats : List ℕ} {i n : ℕ} {keys amounts keys' amounts' : List ℕ} → keys' ≡ keys → amounts' ≡ amounts → Known ws ps bs ats i n keys amounts → Known ws ps bs ats i n keys' amounts'
known_same {n = n} e f a = known_kept a (record { keys_kept = ap (take n) e; amounts_kept = ap (take n) f; keys_long = ap length e; amounts_long = ap length f })

-- slots as an environment
lent-partly : (v : ℕ) (b : List ℕ) → length b ≡ v → lent b ≡ partly (partial_of v b)
lent-partly v b l = ap lent (sym (take_all v b (omega arith))) ∙ slots_lent v b

-- a try that went on, and what the rest of the plan is handed
pub record Onward (s : Situation) (inputs tested : List ℕ) (v d : ℕ) (b : List ℕ) (most budget : ℕ) (cur : Progress) (m : List ℕ) : Type 0 where
  pub sound : Sound s.transition (drop (d + 1) s.transition.plan) (partial_of v b)
  pub settled : Settling s inputs tested (drop (d + 1) s.transition.plan) (partial_of v b)
  pub long : length b ≡ v
  pub held : Held v most cur.rows m
  pub unspent : Unspent budget (record { tries = cur.tries + 1; rows = cur.rows; spent = cur.spent; full = cur.full })

-- what the rest of the plan leaves of it, whether that was a leaf or a walk
pub record Went (w most budget : ℕ) (cur : Progress) (m : List ℕ) (cost : ℕ) (rows : List (List ℤ)) (n : ℕ) (r : Progress) (m' b' : List ℕ) : Type 0 where
  pub ended : Ended w most budget cur.rows m (cur.tries + 1) (listing_of w cur.rows cur.full m) cost rows r m'
  pub as_long : length m' ≡ length m
  pub slots : length b' ≡ n

pub went : {w most budget : ℕ} {cur : Progress} {m : List ℕ} {cost : ℕ} {rows : List (List ℤ)} {n : ℕ} {r r₁ : Progress} {m' m₁ b' b₁ : List ℕ} → Ended w most budget cur.rows m (cur.tries + 1) (listing_of w cur.rows cur.full m) cost rows r₁ m₁ → length m₁ ≡ length m → length b₁ ≡ n → b' ≡ b₁ → m' ≡ m₁ → r ≡ r₁ → Went w most budget cur m cost rows n r m' b'
went {w} {most} {budget} {cur} {m} {cost} {rows} {r₁ = r₁} {m' = m'} h k l e f g = record {
  ended = subst (λ (c : Progress). Ended w most budget cur.rows m (cur.tries + 1) (listing_of w cur.rows cur.full m) cost rows c m') (sym g) (subst (λ (x : List ℕ). Ended w most budget cur.rows m (cur.tries + 1) (listing_of w cur.rows cur.full m) cost rows r₁ x) (sym f) h);
  as_long = ap length f ∙ k;
  slots = ap length e ∙ l;
}

module _ {ws ps : List ℕ} {position v : ℕ} {inputs conjuncts elements ms begins : List ℕ} {s : Situation} (W : World ws ps position v inputs conjuncts elements ms begins s) where
  -- at most eight positions are looked up
  pub tested-few : {tested : List ℕ} {es : List Element} {p : Partial} → Settling s inputs tested es p → length tested ≤ 8
  tested-few T = let f = few-inputs W in let k = kept-length T.mask inputs in let e = ap length T.same in omega arith

module _ {ws ps : List ℕ} {position v : ℕ} {inputs conjuncts elements ms begins : List ℕ} {s : Situation} (W : World ws ps position v inputs conjuncts elements ms begins s) (d : ℕ) (b : List ℕ) (S : Sound s.transition (drop d s.transition.plan) (partial_of v b)) where
  -- ── Arcs ──

  module _ (l : length b ≡ v) where
    -- the input arcs of the transition stand at their positions, and so do those that leaves look up
    pub inputs-there : Every (HasArc ws ps (length b)) inputs
    inputs-there = inputs-stand ws s.net.places position s.transition W.after W.there (length b) (l ∙ W.many) ps W.placed W.arcs

    pub tested-there : {tested : List ℕ} {es : List Element} {p : Partial} → Settling s inputs tested es p → Every (HasArc ws ps (length b)) tested
    tested-there T = subst (Every (HasArc ws ps (length b))) (sym T.same) (every-kept (HasArc ws ps (length b)) T.mask inputs inputs-there)

  -- ── At the end of the plan ──

  module _ (h : d ≡ length elements) where
    none_left : drop d s.transition.plan ≡ []
    none_left = let a = as_many W in drop_of_length-le s.transition.plan {i = d} (omega arith)

    pub full : (zs : List ℤ) × (partial_of v b ≡ map some zs) × (in_ranges s.transition.variables zs ≡ true)
    full = sound_leaf (subst (λ (es : List Element). Sound s.transition es (partial_of v b)) none_left S)

    module _ (l : length b ≡ v) where
      pub all : take v b ≡ b
      all = take_all v b (omega arith)

      pub leaf_values : Every IsValue b
      leaf_values = subst (Every IsValue) all (slots_values (take v b) full.0 full.1).1

      pub leaf_conjuncts : Every (HasConjunct ws (length b)) conjuncts
      leaf_conjuncts = conjuncts-stand ws s.net.places position s.transition W.after W.there (length b) (l ∙ W.many) W.guards

      -- what a leaf asks for, to look up some arcs behind those that are known
      pub leaf_handed : (tested : List ℕ) {start kept most n : ℕ} {keys amounts m : List ℕ} → length tested ≤ 8 → (length keys ≡ 8) × (length amounts ≡ 8) → Every (HasArc ws ps (length b)) tested → Known ws ps b tested start kept keys amounts → Held v most n m → PlacesFit ws ps × ((length begins ≡ 65) × ((length tested ≤ 8) × (((length keys ≡ 8) × (length amounts ≡ 8)) × (Every (HasConjunct ws (length b)) conjuncts × (Every (HasArc ws ps (length b)) tested × (Known ws ps b tested start kept keys amounts × (Every IsValue b × Held (length b) most n m)))))))
      leaf_handed tested {most = most} {n = n} {m = m} f e a o k = (W.fits, (W.beginnings, (f, (e, (leaf_conjuncts, (a, (o, (leaf_values, subst (λ (j : ℕ). Held j most n m) (sym l) k))))))))

      -- a leaf that looks up arcs by which it is told whether its binding is enabled
      pub leaf_ended : {tested : List ℕ} {most budget t : ℕ} {spent : Bool} {c : Inserted} {m : List ℕ} {r : Inserted} {m' : List ℕ} → ((q : Bool) → IsEnabledAt ws ps conjuncts tested ms begins (take v b) q → q ≡ is_enabled house_table s.transition s.counts full.0) → Unspent budget (progress t spent c) → IsLeaf ws ps conjuncts tested ms begins most b c m r m' → Ended v most budget c.rows m t (listing_of v c.rows c.full m) (cost_from s (drop d s.transition.plan) (partial_of v b)) (rows_from s (drop d s.transition.plan) (partial_of v b)) (progress t spent r) m'
      leaf_ended {tested} {most} {budget} {t} {spent} {c} {m} {r} {m'} told u i =
          let zs = full.0 in
          let f : binding_of (partial_of v b) ≡ zs = ap binding_of full.1 ∙ binding-full zs in
          let g : values_of_words b ≡ zs = ap values_of_words (sym all) ∙ (slots_values (take v b) zs full.1).0 in
          ended_same (ap (λ (es : List Element). cost_from s es (partial_of v b)) none_left ∙ cost_leaf s (partial_of v b))
          (ap (λ (es : List Element). rows_from s es (partial_of v b)) none_left ∙ rows_leaf s (partial_of v b) ∙ ap (λ (ys : List ℤ). cons_if (is_enabled house_table s.transition s.counts ys) ys []) f ∙ ap (λ (ys : List ℤ). cons_if (is_enabled house_table s.transition s.counts zs) ys []) (sym g))
          (subst (λ (k : ℕ). Ended k most budget c.rows m t (listing_of k c.rows c.full m) 0 (cons_if (is_enabled house_table s.transition s.counts zs) (values_of_words b) []) (progress t spent r) m') l (i.ended budget t spent u (is_enabled house_table s.transition s.counts zs) (λ q x. told q (subst (λ (bs : List ℕ). IsEnabledAt ws ps conjuncts tested ms begins bs q) (sym all) x))))

      -- only those that are not settled are looked up
      pub settled_leaf : {tested : List ℕ} → Settling s inputs tested (drop d s.transition.plan) (partial_of v b) → {most budget t : ℕ} {spent : Bool} {c : Inserted} {m : List ℕ} {r : Inserted} {m' : List ℕ} → Unspent budget (progress t spent c) → IsLeaf ws ps conjuncts tested ms begins most b c m r m' → Ended v most budget c.rows m t (listing_of v c.rows c.full m) (cost_from s (drop d s.transition.plan) (partial_of v b)) (rows_from s (drop d s.transition.plan) (partial_of v b)) (progress t spent r) m'
      settled_leaf {tested} T u x = leaf_ended (λ q y. told-settled W (subst (λ (es : List Element). Settling s inputs tested es (partial_of v b)) none_left T) (take v b) full.0 full.1 (ap length all ∙ l) (full-lent v b full.0 full.1) y) u x

  -- ── At an element ──

  -- an element that is a match names an arc that stands there
  pub aiming : {e : CodeElement} → d < length elements → sorted e.sort ≡ sort_of (bits 8 9 (payload (get_or ws (get_or elements d 0) 0))) (bits 0 7 (payload (get_or ws (get_or elements d 0) 0))) → Aims ws ps v inputs ms begins e
  aiming {e} h k =
      let n = next-element W d h in
      let f = sound_fits (subst (λ (es : List Element). Sound s.transition es (partial_of v b)) n.ahead S) in
      let g : sorted e.sort ≡ n.element.sort = k ∙ sym n.there.sort in
      aims W e (partial_of v b) f.0 f.1.0 (rw g f.1.1)

  -- the tries of a step, and what they come to
  pub record Stepping (parts known : List ℕ) (step : Step) : Type 0 where
    pub cost : cost_from s (drop d s.transition.plan) (partial_of v b) ≡ count_tries (cost_from s (drop (d + 1) s.transition.plan)) (tries house_table s.net s.transition s.counts (sorted step.element.sort) (partial_of v b))
    pub rows : rows_from s (drop d s.transition.plan) (partial_of v b) ≡ rows_over (rows_from s (drop (d + 1) s.transition.plan)) (tries house_table s.net s.transition s.counts (sorted step.element.sort) (partial_of v b))
    pub count : length (tries house_table s.net s.transition s.counts (sorted step.element.sort) (partial_of v b)) ≡ step.count
    pub same : tries_by ws (position + 1) v ms step parts (partial_of v b) ≡ tries house_table s.net s.transition s.counts (sorted step.element.sort) (partial_of v b)
    pub sound : (q : Partial) (i : ℕ) → i < length (tries house_table s.net s.transition s.counts (sorted step.element.sort) (partial_of v b)) → get_or (tries house_table s.net s.transition s.counts (sorted step.element.sort) (partial_of v b)) i none ≡ some q → Sound s.transition (drop (d + 1) s.transition.plan) q
    pub extends : (q : Partial) (i : ℕ) → i < length (tries house_table s.net s.transition s.counts (sorted step.element.sort) (partial_of v b)) → get_or (tries house_table s.net s.transition s.counts (sorted step.element.sort) (partial_of v b)) i none ≡ some q → Extends (partly (partial_of v b)) (partly q)
    pub settles : (tested : List ℕ) → Settling s inputs tested (drop d s.transition.plan) (partial_of v b) → (q : Partial) (i : ℕ) → i < length (tries house_table s.net s.transition s.counts (sorted step.element.sort) (partial_of v b)) → get_or (tries house_table s.net s.transition s.counts (sorted step.element.sort) (partial_of v b)) i none ≡ some q → Settling s inputs tested (drop (d + 1) s.transition.plan) q
    pub safe : Safe ms v step
    pub ready : Ready ws v step
    pub noted : Noted v b parts known

  pub stepping : {e : CodeElement} {parts known : List ℕ} {step : Step} → d < length elements → sorted e.sort ≡ sort_of (bits 8 9 (payload (get_or ws (get_or elements d 0) 0))) (bits 0 7 (payload (get_or ws (get_or elements d 0) 0))) → IsArrival ws ps position v inputs conjuncts ms begins e b parts known step → Stepping parts known step
  stepping {e} {parts} {known} {step} h k A =
      let n = next-element W d h in
      let S' = subst (λ (es : List Element). Sound s.transition es (partial_of v b)) n.ahead S in
      let f = sound_fits S' in
      let g : sorted e.sort ≡ n.element.sort = k ∙ sym n.there.sort in
      let j : sorted step.element.sort ≡ sorted e.sort = ap (λ (x : CodeElement). sorted x.sort) A.element in
      let t : tries_by ws (position + 1) v ms step parts (partial_of v b) ≡ tries house_table s.net s.transition s.counts (sorted e.sort) (partial_of v b) = arrival_tries W A (partial_of v b) f.0 f.1.0 (rw g f.1.1) in
      let u : tries_by ws (position + 1) v ms step parts (partial_of v b) ≡ tries house_table s.net s.transition s.counts (sorted step.element.sort) (partial_of v b) = t ∙ ap (λ x. tries house_table s.net s.transition s.counts x (partial_of v b)) (sym j) in
      let o : tries house_table s.net s.transition s.counts n.element.sort (partial_of v b) ≡ tries house_table s.net s.transition s.counts (sorted step.element.sort) (partial_of v b) = ap (λ x. tries house_table s.net s.transition s.counts x (partial_of v b)) (sym (j ∙ g)) in
      let among : (q : Partial) (i : ℕ) → i < length (tries house_table s.net s.transition s.counts (sorted step.element.sort) (partial_of v b)) → get_or (tries house_table s.net s.transition s.counts (sorted step.element.sort) (partial_of v b)) i none ≡ some q → Memᴰ (some q) (tries house_table s.net s.transition s.counts n.element.sort (partial_of v b)) = λ q i l x. subst (λ (os : List (Option Partial)). Memᴰ (some q) os) (sym o) (number-member (tries house_table s.net s.transition s.counts (sorted step.element.sort) (partial_of v b)) i none (some q) l x) in
      record {
        cost = ap (λ (es : List Element). cost_from s es (partial_of v b)) n.ahead ∙ cost_step s n.element (drop (d + 1) s.transition.plan) (partial_of v b) ∙ ap (count_tries (cost_from s (drop (d + 1) s.transition.plan))) o;
        rows = ap (λ (es : List Element). rows_from s es (partial_of v b)) n.ahead ∙ rows_step s n.element (drop (d + 1) s.transition.plan) (partial_of v b) ∙ ap (rows_over (rows_from s (drop (d + 1) s.transition.plan))) o;
        count = ap length (sym u) ∙ tries-length ws (position + 1) v ms step parts (partial_of v b);
        same = u;
        sound = λ q i l x. sound_next house_table s.net s.counts S' q (among q i l x);
        extends = λ q i l x. tries_extend house_table s.net s.counts S' q (among q i l x);
        settles = λ tested T q i l x. settling_next W S' q (among q i l x) (subst (λ (es : List Element). Settling s inputs tested es (partial_of v b)) n.ahead T);
        safe = A.safe;
        ready = arrival_ready W A;
        noted = A.noted;
      }

  -- a try of the code from slots that are equal, among them
  module _ {parts known : List ℕ} {step : Step} (P : Stepping parts known step) (i : ℕ) {b₁ : List ℕ} (e : b₁ ≡ b) {on : Bool} {b' : List ℕ} (x : IsTried v (get_or (tries_by ws (position + 1) v ms step parts (partial_of v b₁)) i none) b₁ on b') where
    told : get_or (tries house_table s.net s.transition s.counts (sorted step.element.sort) (partial_of v b)) i none ≡ given on (partial_of v b')
    told = ap (λ (os : List (Option Partial)). get_or os i none) (sym P.same) ∙ ap (λ (l : List ℕ). get_or (tries_by ws (position + 1) v ms step parts (partial_of v l)) i none) (sym e) ∙ sym x.same

    pub try_on : on ≡ true → get_or (tries house_table s.net s.transition s.counts (sorted step.element.sort) (partial_of v b)) i none ≡ some (partial_of v b')
    try_on f = told ∙ ap (λ (u : Bool). given u (partial_of v b')) f

    pub try_off : on ≡ false → get_or (tries house_table s.net s.transition s.counts (sorted step.element.sort) (partial_of v b)) i none ≡ none
    try_off f = told ∙ ap (λ (u : Bool). given u (partial_of v b')) f

    -- what is known on arrival is known behind it
    pub known_behind : length b ≡ v → length b' ≡ v → i < length (tries house_table s.net s.transition s.counts (sorted step.element.sort) (partial_of v b)) → on ≡ true → {tested : List ℕ} {start kept : ℕ} {keys amounts : List ℕ} → Known ws ps b tested start kept keys amounts → Known ws ps b' tested start kept keys amounts
    known_behind l l' h f k =
        let g = P.extends (partial_of v b') i h (try_on f) in
        known_stays ws ps b b' (l' ∙ sym l) (λ n z e. ap (λ env. env n) (lent-partly v b' l') ∙ g n z (sym (ap (λ env. env n) (lent-partly v b l)) ∙ e)) k

    -- where it does not go on, the slots are as they were
    pub try_left : on ≡ false → b' ≡ b
    try_left f = x.left f ∙ e

  -- slots that are put back
  pub back : {b' saved : List ℕ} (n : ℕ) → IsSaved b saved → n ≡ length b → b' ≡ take n saved → b' ≡ b
  back {saved = saved} n k l e = e ∙ ap (λ (i : ℕ). take i saved) l ∙ k.front

  -- what was kept of slots that are equal
  pub kept_of : {b₁ saved : List ℕ} → b₁ ≡ b → IsSaved b saved → IsSaved b₁ saved
  kept_of {saved = saved} e k = subst (λ (l : List ℕ). IsSaved l saved) (sym e) k

  -- the words that were lent, under slots that are equal
  pub noted_of : {parts known : List ℕ} {step : Step} {b₁ : List ℕ} → Stepping parts known step → b₁ ≡ b → Noted v b₁ parts known
  noted_of {parts} {known} P e = subst (λ (l : List ℕ). Noted v l parts known) (sym e) P.noted

  -- a try that went on hands the same to a leaf as to a walk
  pub onward : {parts known : List ℕ} {step : Step} (P : Stepping parts known step) (i : ℕ) {b₁ : List ℕ} (e : b₁ ≡ b) {on : Bool} {b' : List ℕ} → IsTried v (get_or (tries_by ws (position + 1) v ms step parts (partial_of v b₁)) i none) b₁ on b' → i < step.count → on ≡ true → length b ≡ v → length b' ≡ length b₁ → {tested : List ℕ} → Settling s inputs tested (drop d s.transition.plan) (partial_of v b) → {most budget : ℕ} {cur : Progress} {m : List ℕ} → Held v most cur.rows m → Unspent budget (record { tries = cur.tries + 1; rows = cur.rows; spent = cur.spent; full = cur.full }) → Onward s inputs tested v d b' most budget cur m
  onward P i e x h f l n T H U = record {
    sound = P.sound _ i (rw P.count h) (try_on P i e x f);
    settled = P.settles _ T _ i (rw P.count h) (try_on P i e x f);
    long = n ∙ ap length e ∙ l;
    held = H;
    unspent = U;
  }
