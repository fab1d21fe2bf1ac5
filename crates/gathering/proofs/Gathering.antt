-- The rules of gathering what arcs move: what the first arcs move is known, and what is still ahead comes behind it. An arc that moves nothing
-- adds none; one that has no flow, or moves a colour that its place cannot have, leaves none.
use mathlib.Core.Path.{◌≡◌, refl, sym, ap, ◌∙◌}
use mathlib.Core.Logic.{◌⊎◌, inl, inr}
use Prim.Native.Nat.{ℕ, ◌+◌, ◌≤◌, ◌<◌}
use mathlib.Core.Bool.{Bool, true, false, ◌&&◌}
use mathlib.Core.List.{List, [], ◌∷◌, ◌++◌, append-nil}
use mathlib.Core.Option.{Option, none, some, bind}
use native.Mathlib.Numerals.{add-one}
use native.Mathlib.Omega.{arith}
use borrow.Author.Rules.{rules}
use borrow.Author.Tests.{le-leb, lt-leb, eq-eqb}
use lib.Dec.{eqb}
use lib.ListN.{length, get_or, take, drop, set, length-set, take-append-drop, drop_of_length-le}
use lib.Seq.{take-suc, drop-cons, take-set-le, length-take-le}
use Rattle.semantics.specs.Lists.{Every, every, cons_if, select}
use Rattle.semantics.specs.Expression.{given, house_table}
use Rattle.semantics.specs.Reading.{Reading, read, refused}
use Rattle.semantics.specs.Net.{Arc}
use Rattle.semantics.specs.ReadNet.{read_arc}
use Rattle.semantics.specs.Enabling.{Flow}
use Rattle.semantics.proofs.Tests.{or_right}
use Rattle.semantics.proofs.Extending.{Extends, flow_extends}
use Rattle.semantics.proofs.Members.{none-some, every-number, every_snoc}
use Rattle.expression.proofs.Laws.{every_append}
use Rattle.evaluation.specs.Evaluate.{lent}
use Rattle.net.specs.Places.{places_at}
use Rattle.net.specs.Standing.{HasArc}
use Rattle.net.proofs.Loops.{take-set}
use Rattle.arcs.specs.declared.flow.Moved.{Moved}
use Rattle.arcs.specs.declared.flow.Moved.TheVariants.{Tokens, Idle, Outside, Nothing}
use Rattle.arcs.specs.Flow.{arc_flow, flow_at, flows_at}
use Rattle.arcs.specs.Keys.{key_flow, key_flows, KeyFits, fits_at, Says, IsMoved}
use Rattle.arcs.proofs.Colours.{front, front_nil}
use Rattle.gathering.specs.Gather.{moving, gathered_by, Known, IsGathered, Keeps}

-- ── One arc more ──

module _ (ws ps : List ℕ) where
  -- a flow in front of others that may be missing
  first-none : (o : Option (List Flow)) (f : Flow) → fits_at ws ps f ≡ false → gathered_by ws ps (bind o (λ fs. some (f ∷ fs))) ≡ none
  unfolding bind every
  first-none none f e = refl
  first-none (some fs) f e = rw e

  first_idle : (o : Option (List Flow)) (f : Flow) → f.amount ≡ 0 → gathered_by ws ps (bind o (λ fs. some (f ∷ fs))) ≡ gathered_by ws ps o
  unfolding bind every select
  first_idle none f e = refl
  first_idle (some fs) f e = rw (eq-eqb f.amount 0 e, lt-leb 1 f.amount (omega arith))

  first-moves : (o : Option (List Flow)) (f : Flow) → fits_at ws ps f ≡ true → 1 ≤ f.amount → gathered_by ws ps (bind o (λ fs. some (f ∷ fs))) ≡ front (f ∷ []) (gathered_by ws ps o)
  unfolding bind every select
  first-moves none f e h = refl
  first-moves (some fs) f e h = rw (e, le-leb 1 f.amount h) (by (every (fits_at ws ps) fs))
    where
      by : (t : Bool) → given t (f ∷ select moving fs) ≡ front (f ∷ []) (given t (select moving fs))
      by true = refl
      by false = refl

  keys_behind : (ks as' : List ℕ) (k a : ℕ) → length ks ≡ length as' → key_flows ws ps (ks ++ (k ∷ [])) (as' ++ (a ∷ [])) ≡ key_flows ws ps ks as' ++ (key_flow ws ps k a ∷ [])
  unfolding key_flows
  keys_behind [] [] k a e = refl
  keys_behind [] (b ∷ bs) k a e = absurd (omega arith)
  keys_behind (j ∷ ks) [] k a e = absurd (omega arith)
  keys_behind (j ∷ ks) (b ∷ bs) k a e = ap (λ (l : List Flow). key_flow ws ps j b ∷ l) (keys_behind ks bs k a (omega arith))

-- ── Arcs one after the other ──

pub select_append : {A : Type 0} (t : A → Bool) (xs ys : List A) → select t (xs ++ ys) ≡ select t xs ++ select t ys
unfolding select
select_append t [] ys = refl
select_append t (x ∷ xs) ys = by (t x) (select_append t xs ys)
  where
    by : (u : Bool) → select t (xs ++ ys) ≡ select t xs ++ select t ys → cons_if u x (select t (xs ++ ys)) ≡ cons_if u x (select t xs) ++ select t ys
    by true e = ap (λ l. x ∷ l) e
    by false e = e

module _ (ws ps : List ℕ) where
  flows-behind : (bs xs ys : List ℕ) (fs : List Flow) → flows_at ws ps bs xs ≡ some fs → flows_at ws ps bs (xs ++ ys) ≡ front fs (flows_at ws ps bs ys)
  unfolding flows_at bind
  flows-behind bs [] ys fs e = let d : [] ≡ fs = cc in rw (← d) (sym (front_nil (flows_at ws ps bs ys)))
  flows-behind bs (x ∷ xs) ys fs e = by (flow_at ws ps bs x) (flows_at ws ps bs xs) (flows-behind bs xs ys) e
    where
      by : (o : Option Flow) (os : Option (List Flow)) → ((gs : List Flow) → os ≡ some gs → flows_at ws ps bs (xs ++ ys) ≡ front gs (flows_at ws ps bs ys)) → bind o (λ f. bind os (λ gs. some (f ∷ gs))) ≡ some fs → bind o (λ f. bind (flows_at ws ps bs (xs ++ ys)) (λ gs. some (f ∷ gs))) ≡ front fs (flows_at ws ps bs ys)
      by none os h d = none-some d
      by (some f) none h d = none-some d
      by (some f) (some gs) h d =
          let k : (f ∷ gs) ≡ fs = cc in
          rw (← k, h gs refl) (put (flows_at ws ps bs ys))
        where
          put : (o : Option (List Flow)) → bind (front gs o) (λ hs. some (f ∷ hs)) ≡ front (f ∷ gs) o
          put none = refl
          put (some hs) = refl

  gathered-front : (fs ks : List Flow) → gathered_by ws ps (some fs) ≡ some ks → (o : Option (List Flow)) → gathered_by ws ps (front fs o) ≡ front ks (gathered_by ws ps o)
  gathered-front fs ks e none = refl
  gathered-front fs ks e (some gs) = rw (every_append (fits_at ws ps) fs gs, select_append moving fs gs) (by (every (fits_at ws ps) fs) e)
    where
      by : (t : Bool) → given t (select moving fs) ≡ some ks → given (t && every (fits_at ws ps) gs) (select moving fs ++ select moving gs) ≡ front ks (given (every (fits_at ws ps) gs) (select moving gs))
      by false d = none-some d
      by true d = let k : select moving fs ≡ ks = cc in rw k (put (every (fits_at ws ps) gs))
        where
          put : (t : Bool) → given t (ks ++ select moving gs) ≡ front ks (given t (select moving gs))
          put true = refl
          put false = refl

-- what is known of the first arcs, and what the others add
module _ {ws ps bs ats : List ℕ} {i n : ℕ} {keys amounts : List ℕ} (a : Known ws ps bs ats i n keys amounts) where
  behind-known : (xs : List ℕ) → gathered_by ws ps (flows_at ws ps bs (take i ats ++ xs)) ≡ front (key_flows ws ps (take n keys) (take n amounts)) (gathered_by ws ps (flows_at ws ps bs xs))
  behind-known xs = ap (gathered_by ws ps) (flows-behind ws ps bs (take i ats) xs a.flows a.told) ∙ gathered-front ws ps a.flows (key_flows ws ps (take n keys) (take n amounts)) a.same (flows_at ws ps bs xs)

  known_ahead : gathered_by ws ps (flows_at ws ps bs ats) ≡ front (key_flows ws ps (take n keys) (take n amounts)) (gathered_by ws ps (flows_at ws ps bs (drop i ats)))
  known_ahead = ap (λ (l : List ℕ). gathered_by ws ps (flows_at ws ps bs l)) (sym (take-append-drop i ats)) ∙ behind-known (drop i ats)

  -- one arc more, with the keys that it leaves
  known_more : (h : i < length ats) (f : Flow) → flow_at ws ps bs (get_or ats i 0) ≡ some f → {m : ℕ} {keys' amounts' : List ℕ} → m ≤ i + 1 → Every (KeyFits ws ps) (take m keys') → front (key_flows ws ps (take n keys) (take n amounts)) (gathered_by ws ps (some (f ∷ []))) ≡ some (key_flows ws ps (take m keys') (take m amounts')) → Known ws ps bs ats (i + 1) m keys' amounts'
  unfolding flows_at bind
  known_more h f e few fit s =
      let t : take (i + 1) ats ≡ take i ats ++ (get_or ats i 0 ∷ []) = ap (λ (k : ℕ). take k ats) (add-one i) ∙ take-suc ats i 0 h in
      let o : flows_at ws ps bs (get_or ats i 0 ∷ []) ≡ some (f ∷ []) = rw e in
      let u : flows_at ws ps bs (take (i + 1) ats) ≡ some (a.flows ++ (f ∷ [])) = ap (flows_at ws ps bs) t ∙ flows-behind ws ps bs (take i ats) (get_or ats i 0 ∷ []) a.flows a.told ∙ ap (front a.flows) o in
      record { inside = omega arith; few = few; fit = fit; flows = a.flows ++ (f ∷ []); told = u; same = gathered-front ws ps a.flows (key_flows ws ps (take n keys) (take n amounts)) a.same (some (f ∷ [])) ∙ s }

-- nothing is known yet
pub known_nothing : (ws ps bs ats keys amounts : List ℕ) → Known ws ps bs ats 0 0 keys amounts
unfolding flows_at key_flows every select
known_nothing ws ps bs ats keys amounts = record { inside = omega arith; few = omega arith; fit = tt; flows = []; told = refl; same = refl }

-- nothing changes
pub keeps_all : (n : ℕ) (keys amounts : List ℕ) → Keeps n keys amounts keys amounts
keeps_all n keys amounts = record { keys_kept = refl; amounts_kept = refl; keys_long = refl; amounts_long = refl }

-- the same keys, in lists that keep them
pub known_kept : {ws ps bs ats : List ℕ} {i n : ℕ} {keys amounts keys' amounts' : List ℕ} → Known ws ps bs ats i n keys amounts → Keeps n keys amounts keys' amounts' → Known ws ps bs ats i n keys' amounts'
known_kept a k = record { inside = a.inside; few = a.few; fit = rw k.keys_kept a.fit; flows = a.flows; told = a.told; same = rw (k.keys_kept, k.amounts_kept) a.same }

-- what is known stays known as more is bound
module _ (ws ps bs bs' : List ℕ) (l : length bs' ≡ length bs) (x : Extends (lent bs) (lent bs')) where
  flow_stays : (at : ℕ) (f : Flow) → flow_at ws ps bs at ≡ some f → flow_at ws ps bs' at ≡ some f
  flow_stays at f e = rw l (by (read_arc ws (places_at ws ps) (length bs) at) e)
    where
      by : (r : Reading Arc) → arc_flow (lent bs) r ≡ some f → arc_flow (lent bs') r ≡ some f
      by (read a next) d = flow_extends house_table x a d
      by (refused n p) d = none-some d

  flows-stay : (ats : List ℕ) (fs : List Flow) → flows_at ws ps bs ats ≡ some fs → flows_at ws ps bs' ats ≡ some fs
  unfolding flows_at bind
  flows-stay [] fs e = e
  flows-stay (at ∷ ats) fs e = by (flow_at ws ps bs at) refl (flows_at ws ps bs ats) (flows-stay ats) e
    where
      by : (o : Option Flow) → flow_at ws ps bs at ≡ o → (os : Option (List Flow)) → ((gs : List Flow) → os ≡ some gs → flows_at ws ps bs' ats ≡ some gs) → bind o (λ f. bind os (λ gs. some (f ∷ gs))) ≡ some fs → bind (flow_at ws ps bs' at) (λ f. bind (flows_at ws ps bs' ats) (λ gs. some (f ∷ gs))) ≡ some fs
      by none p os q d = none-some d
      by (some f) p none q d = none-some d
      by (some f) p (some gs) q d = rw (flow_stays at f p, q gs refl) d

  pub known_stays : {ats : List ℕ} {i n : ℕ} {keys amounts : List ℕ} → Known ws ps bs ats i n keys amounts → Known ws ps bs' ats i n keys amounts
  known_stays {ats} {i} a = record { inside = a.inside; few = a.few; fit = a.fit; flows = a.flows; told = flows-stay (take i ats) a.flows a.told; same = a.same }

-- ── The loop ──

-- what the i first arcs move is known, and the first keys are those that were there
pub record Gathering (ws ps bs ats : List ℕ) (kept : ℕ) (keys₀ amounts₀ : List ℕ) (i n : ℕ) (keys amounts : List ℕ) : Type 0 where
  pub known : Known ws ps bs ats i n keys amounts
  pub keys_full : length keys ≡ 8
  pub amounts_full : length amounts ≡ 8
  pub behind : kept ≤ n
  pub keeps : Keeps kept keys₀ amounts₀ keys amounts

-- an arc stands at each position
pub arc-there : (ws ps ats : List ℕ) (v i : ℕ) → Every (HasArc ws ps v) ats → i < length ats → HasArc ws ps v (get_or ats i 0)
arc-there ws ps ats v i e h = every-number (HasArc ws ps v) ats i 0 e h

pub gathering_start : {ws ps bs ats : List ℕ} {i n : ℕ} {keys amounts : List ℕ} → Known ws ps bs ats i n keys amounts → length keys ≡ 8 → length amounts ≡ 8 → Gathering ws ps bs ats n keys amounts i n keys amounts
gathering_start {n = n} {keys} {amounts} a k l = record { known = a; keys_full = k; amounts_full = l; behind = omega arith; keeps = keeps_all n keys amounts }

module _ {ws ps bs ats : List ℕ} {kept : ℕ} {keys₀ amounts₀ : List ℕ} {i n : ℕ} {keys amounts : List ℕ} (a : Gathering ws ps bs ats kept keys₀ amounts₀ i n keys amounts) where
  pub gathering_end : length ats ≤ 8 → length ats ≤ i → IsGathered ws ps bs ats (record { some = true; arcs = i; n = n }) keys amounts
  unfolding flows_at every select
  gathering_end few h =
      let g = a.known.inside in
      let l = a.known.few in
      record { keys_full = a.keys_full; amounts_full = a.amounts_full; same = ap some (sym (append-nil (key_flows ws ps (take n keys) (take n amounts)))) ∙ sym (rw (drop_of_length-le ats {i = i} h) at (known_ahead a.known)); few = omega arith; known = a.known }

  module _ (h : i < length ats) {r : Moved} (x : IsMoved ws ps bs (get_or ats i 0) r) where
    stopped : length ats ≤ 8 → gathered_by ws ps (bind (flow_at ws ps bs (get_or ats i 0)) (λ f. bind (flows_at ws ps bs (drop (i + 1) ats)) (λ fs. some (f ∷ fs)))) ≡ none → IsGathered ws ps bs ats (record { some = false; arcs = i; n = n }) keys amounts
    unfolding flows_at
    stopped few e =
        let l = a.known.few in
        record { keys_full = a.keys_full; amounts_full = a.amounts_full; same = sym (known_ahead a.known ∙ ap (front (key_flows ws ps (take n keys) (take n amounts))) (step ∙ e)); few = omega arith; known = a.known }
      where
        step : gathered_by ws ps (flows_at ws ps bs (drop i ats)) ≡ gathered_by ws ps (bind (flow_at ws ps bs (get_or ats i 0)) (λ f. bind (flows_at ws ps bs (drop (i + 1) ats)) (λ fs. some (f ∷ fs))))
        step = rw (drop-cons ats i 0 h, add-one i)

    pub gathering_stop : length ats ≤ 8 → (r ≡ Outside) ⊎ (r ≡ Nothing) → IsGathered ws ps bs ats (record { some = false; arcs = i; n = n }) keys amounts
    unfolding bind
    gathering_stop few (inl e) =
        let s : Says ws ps (flow_at ws ps bs (get_or ats i 0)) Outside = rw e at x.says in
        stopped few (rw s.1 (first-none ws ps (flows_at ws ps bs (drop (i + 1) ats)) s.0 s.2))
    gathering_stop few (inr e) = let s : flow_at ws ps bs (get_or ats i 0) ≡ none = rw e at x.says in stopped few (rw s)

    pub gathering_idle : r ≡ Idle → Gathering ws ps bs ats kept keys₀ amounts₀ (i + 1) n keys amounts
    unfolding bind every select
    gathering_idle e =
        let s : Says ws ps (flow_at ws ps bs (get_or ats i 0)) Idle = rw e at x.says in
        let l = a.known.few in
        record {
          known = known_more a.known h s.0 s.1 (omega arith) a.known.fit (ap (front (key_flows ws ps (take n keys) (take n amounts))) (first_idle ws ps (some []) s.0 s.2) ∙ ap some (append-nil (key_flows ws ps (take n keys) (take n amounts))));
          keys_full = a.keys_full;
          amounts_full = a.amounts_full;
          behind = a.behind;
          keeps = a.keeps;
        }

    pub gathering_turn : length ats ≤ 8 → {k m : ℕ} → r ≡ Tokens k m → Gathering ws ps bs ats kept keys₀ amounts₀ (i + 1) (n + 1) (set keys n k) (set amounts n m)
    unfolding bind every select
    gathering_turn few {k} {m} e =
        let s : Says ws ps (flow_at ws ps bs (get_or ats i 0)) (Tokens k m) = rw e at x.says in
        let l = a.known.few in
        let f = a.keys_full in
        let g = a.amounts_full in
        let b = a.behind in
        let p = take-set keys n k (omega arith) in
        let q = take-set amounts n m (omega arith) in
        let w : length (take n keys) ≡ length (take n amounts) = length-take-le n keys (omega arith) ∙ sym (length-take-le n amounts (omega arith)) in
        record {
          known = known_more a.known h (key_flow ws ps k m) s.0 (omega arith) (rw p (every_snoc (KeyFits ws ps) (take n keys) k a.known.fit s.1)) (ap (front (key_flows ws ps (take n keys) (take n amounts))) (first-moves ws ps (some []) (key_flow ws ps k m) (or_right (eqb m 0) _ s.1.ranged) s.2) ∙ rw (p, q) (ap some (sym (keys_behind ws ps (take n keys) (take n amounts) k m w))));
          keys_full = length-set keys n k ∙ f;
          amounts_full = length-set amounts n m ∙ g;
          behind = omega arith;
          keeps = record { keys_kept = take-set-le kept keys n k b ∙ a.keeps.keys_kept; amounts_kept = take-set-le kept amounts n m b ∙ a.keeps.amounts_kept; keys_long = length-set keys n k ∙ a.keeps.keys_long; amounts_long = length-set amounts n m ∙ a.keeps.amounts_long };
        }

pub ruleset gathering = (rules, arc-there, gathering_start, gathering_turn, gathering_idle, gathering_stop, gathering_end)
