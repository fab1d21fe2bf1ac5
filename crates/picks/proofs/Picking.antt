-- The rules of one pick: its transition stands at its position, so its menu may be listed; what is listed is what semantics offers; and the binding at the
-- pick's index may be fired.
use mathlib.Core.Path.{◌≡◌, refl, sym, ap, ◌∙◌, subst}
use mathlib.Core.List.{List, [], ◌∷◌, ◌++◌, map, flat_map, append_assoc, Memᴰ}
use mathlib.Core.Bool.{true}
use mathlib.Core.Option.{Option, some}
use Prim.Native.Nat.{ℕ, zero, suc, ◌+◌, ◌*◌, ◌-◌, ◌/◌, ◌%◌, ◌≤◌, ◌<◌}
use native.Mathlib.Omega.{arith}
use native.Mathlib.Nat.{suc-mul, zero-mul}
use lib.IntN.{ℤ}
use lib.Signed.{mag}
use lib.ListN.{length, get_or, get_elem?, take, drop, length-map, length-append, length-take}
use lib.Seq.{take_at, drop_at, drop-drop}
use Rattle.std.specs.Prelude.{Result, Ok, Err}
use Rattle.semantics.specs.declared.Listed.{Listed}
use Rattle.semantics.specs.declared.refusal.Refusal.{Refusal}
use Rattle.semantics.specs.declared.refusal.Refusal.TheVariants.{NoSuchIndex}
use Rattle.semantics.specs.Answer.{Found, MenuRefused, FireRefused, number_of, position_of}
use Rattle.semantics.specs.Lists.{Every}
use Rattle.semantics.specs.Word.{value_word}
use Rattle.semantics.specs.Expression.{house_table}
use Rattle.semantics.specs.Reading.{read}
use Rattle.semantics.specs.Net.{Arc, Transition, Net}
use Rattle.semantics.specs.ReadNet.{read_transition}
use Rattle.semantics.specs.Plan.{accept_net}
use Rattle.semantics.specs.Order.{in_ranges}
use Rattle.semantics.specs.Marking.{pick_transition, pick_index, counts_of}
use Rattle.semantics.specs.Enabling.{Firing, Enabled, is_enabled}
use Rattle.semantics.specs.Run.{menu, Offer, offered, withheld, offer, fire_at, pick_from, pick}
use Rattle.semantics.specs.Calls.{Situation, MenuEnd, listed_by, limits}
use Rattle.semantics.proofs.Tests.{false_true, Every-at, Every-of}
use Rattle.semantics.proofs.Members.{none-some, length_at, at_member_lem, past_elem}
use Rattle.semantics.proofs.Accepted.{SoundArc, SoundTransition, transition_sound, accepted_planned}
use Rattle.semantics.proofs.Offer.{offer-made}
use Rattle.semantics.proofs.Enabling.{enabled_complete}
use Rattle.semantics.proofs.Menu.{menu_members}
use Rattle.net.specs.Skim.{outline}
use Rattle.net.specs.Parted.{variables_in, inputs_in, outputs_in, guard_in, plan_in, Parted}
use Rattle.net.proofs.Placed.{variables-placed}
use Rattle.marking.specs.Marked.{marking_read}
use Rattle.semantics.proofs.Partial.{range_length}
use Rattle.marking.proofs.Bound.{ranged-small}
use Rattle.occurrence.proofs.Reading.{binding-lent}
use Rattle.steps.specs.Steps.{BeginsThen}
use Rattle.firing.specs.Fire.{FireableAt}
use Rattle.rows.proofs.Rows.{row_room}
use Rattle.arrivals.specs.World.{World}
use Rattle.search.specs.Scene.{net_of, counts_in, scene_of}
use Rattle.search.specs.Search.{menu_end}
use Rattle.menus.specs.Menu.{IsListed}
use Rattle.rests.specs.Rests.{Rest}
use Rattle.rests.proofs.Resting.{part-is}
use Rattle.rests.proofs.Chosen as known
use Rattle.picks.specs.Pick.{Leaves, row, FiresRow, Lists, IsFiredAt, Pickable, IsPicked}

-- ── What was listed ──

pub record Withheld (e : Refusal) (x : Offer) : Type 0 where
  pub is : x ≡ withheld (number_of e)
  pub nowhere : position_of e ≡ 0

withheld-is : (buffer after : List ℕ) (e : Refusal) (x : Offer) → menu_end (Err e) after ≡ listed_by buffer x → Withheld e x
withheld-is buffer after e (offered bs w) h = let a : MenuRefused (number_of e) (position_of e) ≡ Found (length bs) w = ap (λ (m : MenuEnd). m.answer) h in cc
withheld-is buffer after e (withheld k) h = let a : MenuRefused (number_of e) (position_of e) ≡ MenuRefused k 0 = ap (λ (m : MenuEnd). m.answer) h in record { is = cc; nowhere = cc }

pub record Offered (buffer after : List ℕ) (n : ℕ) (x : Offer) : Type 0 where
  pub bindings : List (List ℤ)
  pub tries : ℕ
  pub is : x ≡ offered bindings tries
  pub many : n ≡ length bindings
  pub words : after ≡ flat_map (map value_word) bindings ++ drop (length (flat_map (map value_word) bindings)) buffer

offered-is : (buffer after : List ℕ) (r : Listed) (x : Offer) → menu_end (Ok r) after ≡ listed_by buffer x → Offered buffer after r.bindings x
offered-is buffer after r (withheld k) e = let a : Found r.bindings r.tries ≡ MenuRefused k 0 = ap (λ (m : MenuEnd). m.answer) e in cc
offered-is buffer after r (offered bs v) e =
    let a : Found r.bindings r.tries ≡ Found (length bs) v = ap (λ (m : MenuEnd). m.answer) e in
    let l : r.bindings ≡ length bs = cc in
    record { bindings = bs; tries = v; is = refl; many = l; words = ap (λ (m : MenuEnd). m.buffer) e }

-- the words of one binding among those of all, which have one width
binding-words : (bs : List (List ℤ)) (v : ℕ) → Every (λ (b : List ℤ). length b ≡ v) bs → (i : ℕ) (b : List ℤ) → get_elem? bs i ≡ some b → (rest : List ℕ) → take v (drop (i * v) (flat_map (map value_word) bs ++ rest)) ≡ map value_word b
unfolding flat_map
binding-words [] v h i b e rest = none-some e
binding-words (x ∷ bs) v h zero b e rest =
    let z = zero-mul v in
    let q : x ≡ b = cc in
    let l : length (map value_word x) ≡ v = length-map x value_word ∙ h.0 in
    ap (λ (l : List ℕ). take v (drop (0 * v) l)) (append_assoc (map value_word x) (flat_map (map value_word) bs) rest)
    ∙ ap (λ (k : ℕ). take v (drop k (map value_word x ++ (flat_map (map value_word) bs ++ rest)))) z
    ∙ take_at (map value_word x) (flat_map (map value_word) bs ++ rest) v l ∙ ap (map value_word) q
binding-words (x ∷ bs) v h (suc i) b e rest =
    let z : suc i * v ≡ v + i * v = omega (arith, suc-mul i v) in
    let l : length (map value_word x) ≡ v = length-map x value_word ∙ h.0 in
    ap (λ (l : List ℕ). take v (drop (suc i * v) l)) (append_assoc (map value_word x) (flat_map (map value_word) bs) rest)
    ∙ ap (λ (k : ℕ). take v (drop k (map value_word x ++ (flat_map (map value_word) bs ++ rest)))) z
    ∙ ap (take v) (sym (drop-drop (i * v) v (map value_word x ++ (flat_map (map value_word) bs ++ rest))))
    ∙ ap (λ (l : List ℕ). take v (drop (i * v) l)) (drop_at (map value_word x) (flat_map (map value_word) bs ++ rest) v l)
    ∙ binding-words bs v h.1 i b e rest

flat_length : (bs : List (List ℤ)) (v : ℕ) → Every (λ (b : List ℤ). length b ≡ v) bs → length (flat_map (map value_word) bs) ≡ length bs * v
unfolding flat_map
flat_length [] v h = sym (zero-mul v)
flat_length (x ∷ bs) v h =
    let l = length-append (map value_word x) (flat_map (map value_word) bs) in
    let m = length-map x value_word in
    let i = flat_length bs v h.1 in
    let f = h.0 in
    let s = suc-mul (length bs) v in
    omega arith

-- ── The transition of a pick ──

module _ {ws ps transitions parts rests begins buffer : List ℕ} {size w : ℕ} (P : Pickable ws ps transitions parts rests begins buffer size w) where
  abbrev net : Net
  net = net_of (accept_net ws)

  -- the index, as the code reads it
  index_is : w % 16384 ≡ pick_index w
  index_is = omega arith

  abbrev pub chosen : (t : Transition) × (get_elem? net.transitions (pick_transition w) ≡ some t)
  chosen = known.chosen P.known P.there

  pub among : pick_transition w < length transitions
  among = known.among P.known P.there

  reads : (next : ℕ) × (read_transition ws net.places (get_or transitions (pick_transition w) 0) ≡ read chosen.0 next)
  reads = known.reads P.known P.there

  -- its TRANSITION word and its positions in the table, as the code has them
  abbrev head : ℕ
  head = get_or ws (get_or transitions (pick_transition w) 0) 0

  abbrev own : List ℕ
  own = take (pick_transition w * 32 + 32 - pick_transition w * 32) (drop (pick_transition w * 32) parts)

  abbrev rest : List ℕ
  rest = take (pick_transition w * 9 + 9 - pick_transition w * 9) (drop (pick_transition w * 9) rests)

  pub pick-inside : get_or transitions (pick_transition w) 0 < length ws
  pick-inside = known.inside P.known P.there

  pub pick-room : pick_transition w * 32 + 32 ≤ length parts
  pick-room = known.room P.known P.there

  pub pick-rest : pick_transition w * 9 + 9 ≤ length rests
  pick-rest = let f = known.few P.known P.there in let l = P.rested.long in omega arith

  parted : Parted head own (outline chosen.0)
  parted = rw (part-is (pick_transition w * 32) 32 parts) (known.parted P.known P.there)

  own-long : length own ≡ 32
  own-long = rw (part-is (pick_transition w * 32) 32 parts) (known.own-long P.known P.there)

  rest-kept : Rest ws ps head own rest
  rest-kept = rw (part-is (pick_transition w * 32) 32 parts, part-is (pick_transition w * 9) 9 rests) (P.rested.each (pick_transition w) among)

  pub scene_is : scene_of ws (get_or transitions (pick_transition w) 0) (take size buffer) ≡ record { net = net; transition = chosen.0; counts = counts_of P.entries }
  unfolding scene_of
  scene_is = rw (reads.1, P.marked)

  -- ── Its menu ──

  pub pick_lists : Lists ws ps (get_or transitions (pick_transition w) 0) head own rest (take size buffer) begins
  pick_lists = record { few = parted.few; long = own-long; tested = rest-kept; world = subst (World ws ps (get_or transitions (pick_transition w) 0) (variables_in head) (inputs_in head own) (guard_in head own) (plan_in head own) (take size buffer) begins) (sym scene_is) world }
    where
      world : World ws ps (get_or transitions (pick_transition w) 0) (variables_in head) (inputs_in head own) (guard_in head own) (plan_in head own) (take size buffer) begins (record { net = net; transition = chosen.0; counts = counts_of P.entries })
      world = record {
        whole = P.known.whole;
        accepted = P.known.accepted;
        placed = P.known.placed;
        fits = P.known.fits;
        after = reads.0;
        there = reads.1;
        many = parted.variables;
        arcs = parted.inputs;
        guards = parted.guard;
        plan = parted.plan;
        faultless = accepted_planned ws net P.known.whole P.known.accepted chosen.0 (at_member_lem net.transitions (pick_transition w) chosen.0 chosen.1);
        entries = P.entries;
        end = P.end;
        marked = P.marked;
        counted = refl;
        begun = P.begun;
        beginnings = P.full;
      }

  module _ (budget : ℕ) (spare menus : List ℕ) where
    counts-are : counts_in (marking_read net.places (take size buffer)) ≡ counts_of P.entries
    counts-are = rw P.marked

    abbrev offers : Offer
    offers = offer house_table net budget (length menus) chosen.0 (counts_of P.entries)

    abbrev picking : Offer → Firing
    picking = pick_from house_table net (limits budget buffer spare menus) chosen.0 (counts_of P.entries) (pick_index w)

    offer-is : {a : Result Listed Refusal} {after : List ℕ} → IsListed ws (get_or transitions (pick_transition w) 0) (take size buffer) budget menus a after → menu_end a after ≡ listed_by menus offers
    offer-is i = i.listed ∙ ap (λ (s : Situation). listed_by menus (offer house_table s.net budget (length menus) s.transition s.counts)) scene_is

    pick_is : pick house_table net (limits budget buffer spare menus) (counts_in (marking_read net.places (take size buffer))) w ≡ picking offers
    unfolding pick
    pick_is = rw (chosen.1, counts-are)

    leaves_by : {r : Result ℕ Refusal} {b begins' : List ℕ} {x : Firing} → picking offers ≡ x → Leaves net buffer size r b x → BeginsThen net begins begins' x → IsPicked ws budget begins buffer size spare menus w r b begins'
    leaves_by {r} {b} {begins'} e l m = record { picked = subst (Leaves net buffer size r b) (sym (pick_is ∙ e)) l; begun = subst (BeginsThen net begins begins') (sym (pick_is ∙ e)) m }

    -- 10 and 11
    pub pick-withheld : {e : Refusal} {after : List ℕ} → IsListed ws (get_or transitions (pick_transition w) 0) (take size buffer) budget menus (Err e) after → IsPicked ws budget begins buffer size spare menus w (Err e) buffer begins
    pick-withheld {e} {after} i =
        let o = withheld-is menus after e offers (offer-is i) in
        leaves_by (ap picking o.is) (ap (FireRefused (number_of e)) o.nowhere, refl) refl

    module _ {r : Listed} {after : List ℕ} (i : IsListed ws (get_or transitions (pick_transition w) 0) (take size buffer) budget menus (Ok r) after) where
      lists : Offered menus after r.bindings offers
      lists = offered-is menus after r offers (offer-is i)

      picks_at : {o : Option (List ℤ)} → get_elem? lists.bindings (pick_index w) ≡ o → picking offers ≡ fire_at house_table net (limits budget buffer spare menus) chosen.0 (counts_of P.entries) o
      picks_at e = ap picking lists.is ∙ ap (fire_at house_table net (limits budget buffer spare menus) chosen.0 (counts_of P.entries)) e

      -- 12
      pub pick_past : r.bindings ≤ w % 16384 → IsPicked ws budget begins buffer size spare menus w (Err NoSuchIndex) buffer begins
      pick_past h = let m = lists.many in let x = index_is in leaves_by (picks_at (past_elem lists.bindings (pick_index w) (omega arith))) (refl, refl) refl

      -- ── The binding at its index ──

      module _ (h : w % 16384 < r.bindings) where
        abbrev v' : ℕ
        v' = variables_in head

        picked : (b : List ℤ) × (get_elem? lists.bindings (w % 16384) ≡ some b)
        picked = let m = lists.many in length_at lists.bindings (w % 16384) (omega arith)

        in_menu : lists.bindings ≡ menu house_table chosen.0 (counts_of P.entries)
        in_menu = (offer-made house_table net budget (length menus) chosen.0 (counts_of P.entries) lists.bindings lists.tries lists.is).whole

        listed : (b : List ℤ) → Memᴰ b lists.bindings → (in_ranges chosen.0.variables b ≡ true) × Enabled house_table chosen.0 (counts_of P.entries) b
        listed b j = (menu_members house_table chosen.0 (counts_of P.entries) b).0 (subst (Memᴰ b) in_menu j)

        ranged : (b : List ℤ) → Memᴰ b lists.bindings → in_ranges chosen.0.variables b ≡ true
        ranged b j = (listed b j).0

        sound : SoundTransition net.places chosen.0
        sound = transition_sound ws net.places (get_or transitions (pick_transition w) 0) chosen.0 reads.0 reads.1

        as_many : v' ≡ length chosen.0.variables
        as_many = parted.variables

        wide : Every (λ (b : List ℤ). length b ≡ v') lists.bindings
        wide = Every-of (λ (b : List ℤ). length b ≡ v') lists.bindings (λ b j. range_length chosen.0.variables b (ranged b j) ∙ sym as_many)

        b_ranged : in_ranges chosen.0.variables picked.0 ≡ true
        b_ranged = ranged picked.0 (at_member_lem lists.bindings (w % 16384) picked.0 picked.1)

        b_enabled : is_enabled house_table chosen.0 (counts_of P.entries) picked.0 ≡ true
        b_enabled = enabled_complete house_table chosen.0 (counts_of P.entries) picked.0 (listed picked.0 (at_member_lem lists.bindings (w % 16384) picked.0 picked.1)).1

        b_words : take v' (drop ((w % 16384) * v') after) ≡ map value_word picked.0
        b_words = ap (λ (l : List ℕ). take v' (drop ((w % 16384) * v') l)) lists.words ∙ binding-words lists.bindings v' wide (w % 16384) picked.0 picked.1 (drop (length (flat_map (map value_word) lists.bindings)) menus)

        b_small : Every (λ z. mag z < 8192) picked.0
        b_small = ranged-small ws (length chosen.0.variables) (get_or transitions (pick_transition w) 0 + 1) picked.0 (rw (← variables-placed ws net.places (get_or transitions (pick_transition w) 0) chosen.0 reads.0 reads.1) b_ranged)

        fireable : FireableAt ws ps (guard_in head own) (inputs_in head own) (outputs_in head own) (take size buffer) begins (row v' (w % 16384) after)
        fireable = record {
          net = net;
          at = get_or transitions (pick_transition w) 0;
          transition = chosen.0;
          after = reads.0;
          entries = P.entries;
          end = P.end;
          binding = picked.0;
          placed = P.known.placed;
          there = reads.1;
          guard_at_lem = parted.guard;
          inputs_at = parted.inputs;
          outputs_at = parted.outputs;
          outputs = Every-of (λ (a : Arc). a.place < length net.places) chosen.0.outputs (λ a k. (Every-at (SoundArc net.places (length chosen.0.variables)) sound.outputs k).there);
          marked = P.marked;
          begun = P.begun;
          many = ap length b_words ∙ length-map picked.0 value_word ∙ range_length chosen.0.variables picked.0 b_ranged;
          values = binding-lent (row v' (w % 16384) after) picked.0 b_words b_small;
        }

        -- the words of the binding stand in the menu
        inside : (w % 16384) * v' + v' ≤ length after
        inside =
            let l = ap length lists.words ∙ length-append (flat_map (map value_word) lists.bindings) (drop (length (flat_map (map value_word) lists.bindings)) menus) in
            let f = flat_length lists.bindings v' wide in
            let m = lists.many in
            row_room (w % 16384) (length lists.bindings) v' (length after) (omega arith) (omega arith)

        few_of : (n : ℕ) (l : List ℕ) → n ≤ 8 → length (take n l) ≤ 8
        few_of n l h = let m = length-take n l in omega arith

        pub pick-fires : FiresRow ws ps head own begins buffer size after (w % 16384)
        unfolding fireable
        pick-fires = record {
          few = parted.few;
          long = own-long;
          within = inside;
          fires = record {
            fits = P.known.fits;
            beginnings = P.full;
            few-inputs = few_of (head / 16 % 16) own parted.few.inputs;
            few-outputs = few_of (head / 256 % 16) (drop 8 own) parted.few.outputs;
            inside = P.inside;
            conjuncts = guard_in head own;
            fireable = fireable;
            enabled = b_enabled;
          };
        }

        pub pick-fired : {o : Result ℕ Refusal} {b begins' : List ℕ} → IsFiredAt ws ps (inputs_in head own) (outputs_in head own) begins buffer size spare (row v' (w % 16384) after) o b begins' → IsPicked ws budget begins buffer size spare menus w o b begins'
        unfolding fireable
        pick-fired f = leaves_by (picks_at (ap (get_elem? lists.bindings) (sym index_is) ∙ picked.1)) (f.fired (guard_in head own) fireable b_enabled) (f.begun (guard_in head own) fireable b_enabled)
