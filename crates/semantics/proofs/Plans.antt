-- T4, second half: two accepted nets that differ only in elements and E have the same menus, and the menu call on them, where neither is
-- refused, answers the same N and leaves the same words in equal buffers. It answers demand 3: one list for all plans.
-- The idea: enabling, menus and the reading of markings look at a net with its positions and plans set aside alone.
use mathlib.Core.Path.{◌≡◌, refl, sym, ap, ◌∙◌}
use mathlib.Core.Bool.{Bool, ◌&&◌}
use mathlib.Core.List.{List, [], ◌∷◌, map, flat_map}
use mathlib.Core.Option
use mathlib.Core.Option.{Option, none, some, bind}
use Prim.Native.Nat.{ℕ, zero, suc}
use native.Mathlib.Omega.{arith}
use lib.IntN.{ℤ}
use lib.ListN.{length, get_elem?, length-map}
use Rattle.semantics.specs.Answer.{Found, MenuRefused}
use Rattle.semantics.specs.Lists.{every, select}
use Rattle.semantics.specs.Word.{Range, value_word}
use Rattle.semantics.specs.Expression.{Environment, house_table, bound}
use Rattle.semantics.specs.Reading.{Reading, read, refused}
use Rattle.semantics.specs.Net.{Place, Arc, Conjunct, Transition, Net, bare_place, bare_arc, bare_conjunct, bare_transition, bare_net, DifferInPlans}
use Rattle.semantics.specs.Order.{tuples}
use Rattle.semantics.specs.Plan.{accept_net}
use Rattle.semantics.specs.Marking.{Entry, Counts, read_entry, read_entries, read_marking, counts_of}
use Rattle.semantics.specs.Enabling.{Flow, holds, flow, flows, is_enabled}
use Rattle.semantics.specs.Run.{menu, Offer, offered, withheld, offer}
use Rattle.semantics.specs.Calls.{written, situation, menu_call}
use Rattle.semantics.proofs.Members.{map_at}
use Rattle.semantics.proofs.Offer.{Made, offer-made}

-- ── Menus ──

bare_guard : (table : List ℕ) (env : Environment) (cs : List Conjunct) → every (holds table env) (map bare_conjunct cs) ≡ every (holds table env) cs
unfolding every holds
bare_guard table env [] = refl
bare_guard table env (c ∷ cs) = ap (λ (t : Bool). holds table env c && t) (bare_guard table env cs)

bare_flows : (table : List ℕ) (env : Environment) (arcs : List Arc) → flows table env (map bare_arc arcs) ≡ flows table env arcs
unfolding flows flow bind
bare_flows table env [] = refl
bare_flows table env (a ∷ arcs) = ap (λ (o : Option (List Flow)). bind (flow table env a) (λ f. bind o (λ fs. some (f ∷ fs)))) (bare_flows table env arcs)

bare_enabled : (table : List ℕ) (t : Transition) (m : Counts) (b : List ℤ) → is_enabled table (bare_transition t) m b ≡ is_enabled table t m b
unfolding is_enabled
bare_enabled table t m b = rw (bare_guard table (bound b) t.guard, bare_flows table (bound b) t.inputs)

select-same : {A : Type 0} (p q : A → Bool) → ((x : A) → p x ≡ q x) → (xs : List A) → select p xs ≡ select q xs
unfolding select
select-same p q f [] = refl
select-same p q f (x ∷ xs) = rw (f x, select-same p q f xs)

bare_menu : (table : List ℕ) (t : Transition) (m : Counts) → menu table (bare_transition t) m ≡ menu table t m
unfolding menu
bare_menu table t m = select-same (is_enabled table (bare_transition t) m) (is_enabled table t m) (bare_enabled table t m) (tuples t.variables)

-- Transitions that differ only in their plans have equal menus at equal counts.
pub same-menu : (table : List ℕ) (t t' : Transition) (m : Counts) → bare_transition t ≡ bare_transition t' → menu table t m ≡ menu table t' m
same-menu table t t' m e = sym (bare_menu table t m) ∙ ap (λ (u : Transition). menu table u m) e ∙ bare_menu table t' m

-- ── Markings ──

bare_ranges : (ps : List Place) → map (λ (q : Place). q.ranges) (map bare_place ps) ≡ map (λ (q : Place). q.ranges) ps
bare_ranges [] = refl
bare_ranges (p ∷ ps) = ap (λ (rs : List (List Range)). p.ranges ∷ rs) (bare_ranges ps)

bare_entry : (ps : List Place) (ws : List ℕ) (at : ℕ) → read_entry (map bare_place ps) ws at ≡ read_entry ps ws at
unfolding read_entry
bare_entry ps ws at = rw (length-map ps bare_place, bare_ranges ps)

bare_entries : (n : ℕ) (ps : List Place) (ws : List ℕ) (last : List ℤ) (at : ℕ) → read_entries n (map bare_place ps) ws last at ≡ read_entries n ps ws last at
unfolding read_entries
bare_entries zero ps ws last at = refl
bare_entries (suc n) ps ws last at = simp (bare_entry, bare_entries n)

bare_marking : (net : Net) (ws : List ℕ) → read_marking (bare_net net) ws ≡ read_marking net ws
unfolding read_marking
bare_marking net ws = rw (bare_entries (length ws) net.places ws [] 0)

same_marking : (n n' : Net) (ws : List ℕ) → DifferInPlans n n' → read_marking n ws ≡ read_marking n' ws
same_marking n n' ws e = sym (bare_marking n ws) ∙ ap (λ (k : Net). read_marking k ws) e ∙ bare_marking n' ws

-- ── Transitions by their numbers ──

same-transition : (n n' : Net) (k : ℕ) (t t' : Transition) → DifferInPlans n n' → get_elem? n.transitions k ≡ some t → get_elem? n'.transitions k ≡ some t' → bare_transition t ≡ bare_transition t'
same-transition n n' k t t' e p q =
    let u : some (bare_transition t) ≡ some (bare_transition t') =
    ap (Option.map bare_transition) (sym p) ∙ sym (map_at bare_transition n.transitions k) ∙ ap (λ (j : Net). get_elem? j.transitions k) e ∙ map_at bare_transition n'.transitions k ∙ ap (Option.map bare_transition) q
    in
    cc

-- ── The call ──

-- A menu call that is not refused: the net, transition and counts it was handed, and what it answers and leaves.
pub record Listing (net : List ℕ) (t : ℕ) (marking : List ℕ) (budget : ℕ) (buffer : List ℕ) (n w : ℕ) : Type 0 where
  pub accepted : Net
  pub rest : ℕ
  pub is-net : accept_net net ≡ read accepted rest
  pub transition : Transition
  pub is-transition : get_elem? accepted.transitions t ≡ some transition
  pub entries : List Entry
  pub next : ℕ
  pub is_marking : read_marking accepted marking ≡ read entries next
  pub made : Made house_table accepted budget (length buffer) transition (counts_of entries) (menu house_table transition (counts_of entries)) w
  pub number : n ≡ length (menu house_table transition (counts_of entries))
  pub words : (menu_call net t marking budget buffer).buffer ≡ written (flat_map (map value_word) (menu house_table transition (counts_of entries))) buffer

refused-found : {i j n w : ℕ} {X : Type 0} → MenuRefused i j ≡ Found n w → X
refused-found e = let z : ◌≡◌ {A = ℕ} 0 1 = cc in absurd (omega arith)

pub listing : (net : List ℕ) (t : ℕ) (marking : List ℕ) (budget : ℕ) (buffer : List ℕ) (n w : ℕ) → (menu_call net t marking budget buffer).answer ≡ Found n w → Listing net t marking budget buffer n w
unfolding menu_call situation
listing net t marking budget buffer n w h = by_net (accept_net net) refl
  where
    by_offer : (k : Net) (i : ℕ) (tr : Transition) (es : List Entry) (j : ℕ) → accept_net net ≡ read k i → get_elem? k.transitions t ≡ some tr → read_marking k marking ≡ read es j → (o : Offer) → offer house_table k budget (length buffer) tr (counts_of es) ≡ o → Listing net t marking budget buffer n w
    by_offer k i tr es j p q r (withheld c) o = refused-found (rw (p, q, r, o) at h)
    by_offer k i tr es j p q r (offered bs v) o =
        let f : Found (length bs) v ≡ Found n w = rw (p, q, r, o) at h in
        let a : v ≡ w = cc in
        let d = offer-made house_table k budget (length buffer) tr (counts_of es) bs v o in
        let g : length bs ≡ n = cc in
        let c : bs ≡ menu house_table tr (counts_of es) = d.whole in
        record {
          accepted = k;
          rest = i;
          is-net = p;
          transition = tr;
          is-transition = q;
          entries = es;
          next = j;
          is_marking = r;
          made = rw (← a, ← c) d;
          number = sym g ∙ ap length c;
          words = rw (p, q, r, o, c);
        }

    by_marking : (k : Net) (i : ℕ) (tr : Transition) → accept_net net ≡ read k i → get_elem? k.transitions t ≡ some tr → (r : Reading (List Entry)) → read_marking k marking ≡ r → Listing net t marking budget buffer n w
    by_marking k i tr p q (refused c d) r = refused-found (rw (p, q, r) at h)
    by_marking k i tr p q (read es j) r = by_offer k i tr es j p q r (offer house_table k budget (length buffer) tr (counts_of es)) refl

    by_transition : (k : Net) (i : ℕ) → accept_net net ≡ read k i → (o : Option Transition) → get_elem? k.transitions t ≡ o → Listing net t marking budget buffer n w
    by_transition k i p none q = refused-found (rw (p, q) at h)
    by_transition k i p (some tr) q = by_marking k i tr p q (read_marking k marking) refl

    by_net : (r : Reading Net) → accept_net net ≡ r → Listing net t marking budget buffer n w
    by_net (refused i j) p = refused-found (rw p at h)
    by_net (read k i) p = by_transition k i p (get_elem? k.transitions t) refl

-- Two nets that differ only in elements and E: menu calls that are not refused answer the same N and leave the same words.
pub same-listing : (net net' : List ℕ) (k k' : Net) (i i' : ℕ) → accept_net net ≡ read k i → accept_net net' ≡ read k' i' → DifferInPlans k k'
    → (t : ℕ) (marking : List ℕ) (budget budget' : ℕ) (buffer : List ℕ) (n n' w w' : ℕ)
    → (menu_call net t marking budget buffer).answer ≡ Found n w → (menu_call net' t marking budget' buffer).answer ≡ Found n' w'
    → (n ≡ n') × ((menu_call net t marking budget buffer).buffer ≡ (menu_call net' t marking budget' buffer).buffer)
same-listing net net' k k' i i' p p' d t marking budget budget' buffer n n' w w' h h' = (a.number ∙ ap length menus ∙ sym a'.number, a.words ∙ ap (λ (bs : List (List ℤ)). written (flat_map (map value_word) bs) buffer) menus ∙ sym a'.words)
  where
    a : Listing net t marking budget buffer n w
    a = listing net t marking budget buffer n w h

    a' : Listing net' t marking budget' buffer n' w'
    a' = listing net' t marking budget' buffer n' w' h'

    first : a.accepted ≡ k
    first = let e : read a.accepted a.rest ≡ read k i = sym a.is-net ∙ p in cc

    second : a'.accepted ≡ k'
    second = let e : read a'.accepted a'.rest ≡ read k' i' = sym a'.is-net ∙ p' in cc

    differ : DifferInPlans a.accepted a'.accepted
    differ = rw (first, second) d

    counts : a.entries ≡ a'.entries
    counts = let e : read a.entries a.next ≡ read a'.entries a'.next = sym a.is_marking ∙ same_marking a.accepted a'.accepted marking differ ∙ a'.is_marking in cc

    menus : menu house_table a.transition (counts_of a.entries) ≡ menu house_table a'.transition (counts_of a'.entries)
    menus = same-menu house_table a.transition a'.transition (counts_of a.entries) (same-transition a.accepted a'.accepted t a.transition a'.transition differ a.is-transition a'.is-transition) ∙ ap (λ (es : List Entry). menu house_table a'.transition (counts_of es)) counts
