-- The rules of accepting a net, and of check and split: from the positions read and the first fault of the plans. The net that was read is the one whose positions
-- the index has, so its plans are at fault just where the words say so.
use mathlib.Core.Path.{◌≡◌, refl, sym, ap, ◌∙◌}
use Prim.Native.Nat.{ℕ, zero, suc, min, ◌+◌, ◌*◌, ◌/◌, ◌%◌, ◌≤◌, ◌<◌, ◌-◌}
use mathlib.Core.Bool.{Bool, true, false, cond}
use mathlib.Core.List.{List, [], ◌∷◌, map, zip}
use mathlib.Core.Option.{some}
use native.Mathlib.Omega.{arith}
use borrow.Author.Tests.{le-ltb}
use lib.Dec.{ltb}
use lib.ListN.{length, get_or, get_elem?, take, drop, length-map, length-take, length-drop}
use lib.Seq.{take-nil, take_all, get_or-take}
use Rattle.std.specs.Prelude as prelude
use Rattle.std.specs.Prelude.{Some, None, Result, Ok, Err}
use Rattle.semantics.specs.declared.refusal.Refusal.{Refusal}
use Rattle.semantics.specs.declared.refusal.Refusal.TheVariants.{WordsLeft}
use Rattle.semantics.specs.Answer.{option_of, number_of, position_of, refusing, Accepted, verdict_of}
use Rattle.semantics.specs.Refusal.{words_left}
use Rattle.semantics.specs.Reading.{Reading, read, refused, then}
use Rattle.semantics.specs.Net.{Transition, Net}
use Rattle.semantics.specs.ReadNet.{read_net, read_transition}
use Rattle.semantics.specs.Plan.{plans_fault, with_plans, accept_front, accept_net}
use Rattle.semantics.specs.Calls.{check_call, split_call}
use Rattle.semantics.proofs.Tests.{false_true}
use Rattle.semantics.proofs.Members.{at_length, every_elem}
use Rattle.semantics.proofs.Accepted.{read_sound, front-inside}
use Rattle.net.specs.declared.index.NetIndex.{NetIndex}
use Rattle.net.specs.Skim.{changed, outline, net_outline, width, skim_places, skim_net}
use Rattle.net.specs.Parted.{Parted, PartsKept}
use Rattle.net.specs.Index.{up_to, outlined_net, net_read}
use Rattle.kinds.specs.Taken.{IsTaken}
use Rattle.net.proofs.Nets.{net-ends}
use Rattle.net.proofs.Skimming.{skim_net_lem}
use Rattle.net.proofs.Loops.{changed-refused}
use Rattle.net.proofs.Placed.{index_widths, index-transitions}
use Rattle.net.proofs.Located.{At as Stands, position_at, net-transitions}
use Rattle.net.proofs.Parted.{parted}
use Rattle.plans.specs.declared.plan.Reviewed.{Reviewed}
use Rattle.plans.specs.Fitness.{fault_among}
use Rattle.plans.specs.Plan.{end_of, AreKept, AreReviewed}
use Rattle.accept.specs.Front.{accept_to, unless_unfit, settle, extent_read, IsExtent, IsIndex, IsFront, split_into}
use Rattle.accept.specs.declared.accepted.Extent.{Extent}
use Rattle.expression.specs.Skip.{forget, skipped}
use Rattle.expression.proofs.Laws.{passed-read, passed-refused}
use Rattle.plans.proofs.Fitness.{net-fault}

-- the first n of a list that has m, by the lesser of the two
pub take_least : {A : Type 0} (l : List A) (n m p : ℕ) → length l ≡ m → p ≡ min n m → take p l ≡ take n l
take_least [] n m p h e = rw (take-nil p, take-nil n)
take_least (x ∷ xs) zero m p h e =
    let d : p ≡ 0 = omega arith in
    rw d
take_least {A} (x ∷ xs) (suc n) zero p h e = absurd (omega arith)
take_least {A} (x ∷ xs) (suc n) (suc m) p h e =
    let d : p ≡ suc (min n m) = omega arith in
    rw d (ap (λ (ys : List A). x ∷ ys) (take_least xs n m (min n m) (omega arith) refl))

-- a net whose positions an index has was read
pub index_read : (r : Reading Net) (i : NetIndex) → net_read (Ok i) ≡ changed net_outline r → (net : Net) × (r ≡ read net i.end) × (net_outline net ≡ outlined_net i)
index_read (read net n) i x =
    let a : n ≡ i.end = cc in
    (net, ap (read net) a, cc)
index_read (refused m q) i x = false_true (cc)

-- the net that was read, and its positions
record Found (ws : List ℕ) (i : NetIndex) : Type 0 where
  net : Net
  reads : read_net ws 0 ≡ read net i.end
  widths_are : map width net.places ≡ take i.places i.widths
  begins-are : map (λ (t : Transition). t.position) net.transitions ≡ take i.transitions i.transitions_at

unread-net : (ws : List ℕ) {n p : ℕ} → skim_net ws 0 ≡ refused n p → read_net ws 0 ≡ refused n p
unread-net ws e = changed-refused net_outline (read_net ws 0) (skim_net_lem ws 0 ∙ e)

module _ (ws : List ℕ) (i : NetIndex) (x : net_read (Ok i) ≡ skim_net ws 0) (full : length i.places_at ≡ 64) (wide : length i.widths ≡ 64) where
  as_read : changed net_outline (read_net ws 0) ≡ net_read (Ok i)
  as_read = skim_net_lem ws 0 ∙ sym x

  found : Found ws i
  found =
      let r = index_read (read_net ws 0) i (sym as_read) in
      record {
        net = r.0;
        reads = r.1;
        widths_are = sym (index_widths ws i x full wide r.0 i.end r.1);
        begins-are = sym (index-transitions ws i x full wide r.0 i.end r.1);
      }

  net-fault_of : (f : Found ws i) → fault_among ws (take i.places i.widths) (take i.transitions i.transitions_at) ≡ plans_fault f.net.transitions
  net-fault_of f =
      rw (← f.widths_are, ← f.begins-are)
      (net-fault ws f.net.places f.net.transitions (net-transitions ws 0 f.net i.end f.reads) (read_sound ws 0 f.net i.end f.reads).transitions)

  -- a net that was read, with the first fault of its plans
  settled-read : (f : Found ws i) (r : prelude.Option ℕ) → option_of r ≡ plans_fault f.net.transitions → up_to (unless_unfit r i.end) (outlined_net i) ≡ changed net_outline (with_plans (plans_fault f.net.transitions) f.net i.end)
  settled-read f (Some q) h = rw (← h)
  settled-read f None h = rw (← h) (sym as_read ∙ ap (changed net_outline) f.reads)

  settled-same : (least : ℕ) (r : prelude.Option ℕ) → option_of r ≡ fault_among ws (take i.places i.widths) (take i.transitions i.transitions_at) → up_to (settle least i.end r) (outlined_net i) ≡ changed net_outline (accept_to ws least)
  unfolding accept_to
  settled-same least r y = let f = found in rw f.reads (by f (ltb i.end least))
    where
      by : (f : Found ws i) (t : Bool) → up_to (cond t (Err (WordsLeft i.end)) (unless_unfit r i.end)) (outlined_net i) ≡ changed net_outline (cond t (refused words_left i.end) (with_plans (plans_fault f.net.transitions) f.net i.end))
      by f true = refl
      by f false = settled-read f r (y ∙ net-fault_of f)

  -- the parts of the transitions that were kept are those of the net
  net-kept : {first : ℕ} {table : List ℕ} → AreKept ws (take i.places i.widths) i.transitions i.transitions_at first table → (net : Net) (whole : ℕ) → read_net ws 0 ≡ read net whole → PartsKept ws net first table
  net-kept {first} {table} a net whole e = record { each = row }
    where
      f : Found ws i
      f = found

      same : f.net ≡ net
      same = let z : read f.net i.end ≡ read net whole = sym f.reads ∙ e in cc

      row : (k : ℕ) (t : Transition) → get_elem? net.transitions (first + k) ≡ some t → k * 32 + 64 ≤ length table → Parted (get_or ws t.position 0) (take 32 (drop (k * 32) table)) (outline t)
      row k t there room =
          let l = at_length net.transitions (first + k) t there in
          let begins : map (λ (t : Transition). t.position) net.transitions ≡ take i.transitions i.transitions_at = ap (λ (o : Net). map (λ (t : Transition). t.position) o.transitions) (sym same) ∙ f.begins-are in
          let widths : take i.places i.widths ≡ map width net.places = sym f.widths_are ∙ ap (λ (o : Net). map width o.places) same in
          let m = sym (length-map net.transitions (λ (t : Transition). t.position)) ∙ ap length begins ∙ length-take i.transitions i.transitions_at in
          let h : first + k < i.transitions = omega (arith, l, m) in
          let p : get_or i.transitions_at (first + k) 0 ≡ t.position = sym (get_or-take i.transitions i.transitions_at (first + k) 0 h) ∙ position_at (λ (t : Transition). t.position) net.transitions (take i.transitions i.transitions_at) (sym begins) (first + k) t there in
          let o = a.each k h room in
          let stands = every_elem (Stands (read_transition ws net.places) (λ (t : Transition). t.position)) net.transitions (first + k) t (net-transitions ws 0 net whole e) there in
          parted ws net.places t.position (take 32 (drop (k * 32) table)) o.counted (rw (p, widths) at o.are) t stands.next stands.reads

  -- what is answered of a net that was read
  module _ (least : ℕ) (r : prelude.Option ℕ) {s : Result ℕ Refusal} {first : ℕ} {table : List ℕ} (y : option_of r ≡ fault_among ws (take i.places i.widths) (take i.transitions i.transitions_at)) (a : AreKept ws (take i.places i.widths) i.transitions i.transitions_at first table) (d : s ≡ settle least i.end r) where
    told : {u : Result ℕ Refusal} → s ≡ u → up_to u (outlined_net i) ≡ changed net_outline (accept_to ws least)
    told e = rw (sym e ∙ d) (settled-same least r y)

    settled-err : {e : Refusal} → s ≡ Err e → IsExtent ws least i.places_at i.widths i.transitions_at first table (Err e)
    settled-err e = record { same = told e; kept = net-kept a }

    settled-ok : {end : ℕ} → s ≡ Ok end → IsExtent ws least i.places_at i.widths i.transitions_at first table (Ok (record { end = end; places = i.places; transitions = i.transitions }))
    settled-ok e = record { same = told e; kept = net-kept a }

-- a net that cannot be read
pub unread_extent : (ws : List ℕ) (least : ℕ) {places widths transitions : List ℕ} {first : ℕ} {table : List ℕ} {e : Refusal} → refusing e ≡ skim_net ws 0 → IsExtent ws least places widths transitions first table (Err e)
unfolding accept_to
unread_extent ws least {e} s =
    let u = unread-net ws (sym s) in
    record { same = rw u; kept = λ net whole h. let z : read net whole ≡ refusing e = sym h ∙ u in false_true (cc) }

-- a net whose places were read and whose transitions were reviewed
module _ (ws : List ℕ) {t : Result ℕ Refusal} (w : IsTaken ws 0 1 t) {p : ℕ} (e : t ≡ Ok p) (begins widths : List ℕ) {end : Result ℕ Refusal} {from : ℕ} (a : up_to end (zip (take (p / 256 % 256) begins) (take (p / 256 % 256) widths)) ≡ skim_places (p / 256 % 256) ws 1) (d : end ≡ Ok from) (full : length begins ≡ 64) (wide : length widths ≡ 64) {transitions : List ℕ} {first : ℕ} {table : List ℕ} {r : Result Reviewed Refusal} (x : AreReviewed ws (take (p / 256 % 256) widths) (p % 256) from transitions first table r) (least : ℕ) where
  whole : {u : Result Reviewed Refusal} → r ≡ u → up_to (end_of u) (record { places = zip (take (p / 256 % 256) begins) (take (p / 256 % 256) widths); transitions = take (p % 256) transitions }) ≡ skim_net ws 0
  whole {u} q = net-ends ws 0 w e begins widths (end_of u) (take (p % 256) transitions) a d (ap (λ (u : Result Reviewed Refusal). up_to (end_of u) (take (p % 256) transitions)) (sym q) ∙ x.same) full wide

  pub reviewed_refused : {e : Refusal} → r ≡ Err e → IsExtent ws least begins widths transitions first table (Err e)
  reviewed_refused q = unread_extent ws least (whole q)

  module _ {v : Reviewed} (q : r ≡ Ok v) {s : Result ℕ Refusal} (c : s ≡ settle least v.end v.fault) where
    abbrev index : NetIndex
    index = record { end = v.end; places = p / 256 % 256; transitions = p % 256; places_at = begins; widths = widths; transitions_at = transitions }

    pub settled_refused : {e : Refusal} → s ≡ Err e → IsExtent ws least begins widths transitions first table (Err e)
    settled_refused = settled-err ws index (whole q) full wide least v.fault (x.faults v q) (x.kept v q) c

    pub settled_net : {end : ℕ} → s ≡ Ok end → IsExtent ws least begins widths transitions first table (Ok (record { end = end; places = p / 256 % 256; transitions = p % 256 }))
    settled_net = settled-ok ws index (whole q) full wide least v.fault (x.faults v q) (x.kept v q) c

pub to_all : (ws : List ℕ) → accept_to ws (length ws) ≡ accept_net ws
unfolding accept_to accept_net
to_all ws = refl

pub to_front : (ws : List ℕ) → accept_to ws 0 ≡ accept_front ws
unfolding accept_to accept_front
to_front ws = by (read_net ws 0)
  where
    by : (r : Reading Net) → then r (λ net next. cond (ltb next 0) (refused words_left next) (with_plans (plans_fault net.transitions) net next)) ≡ then r (λ net next. with_plans (plans_fault net.transitions) net next)
    by (read net next) = rw (le-ltb next 0 (omega arith))
    by (refused n p) = refl

-- the index of a net that stands alone
module _ (ws : List ℕ) {r : Result Extent Refusal} {places widths transitions table : List ℕ} (x : IsExtent ws (length ws) places widths transitions 0 table r) where
  all-read : {u : Result Extent Refusal} → r ≡ u → extent_read u places widths transitions ≡ changed net_outline (accept_net ws)
  all-read e = ap (λ (u : Result Extent Refusal). extent_read u places widths transitions) (sym e) ∙ x.same ∙ ap (changed net_outline) (to_all ws)

  pub whole-index : {t : Extent} → r ≡ Ok t → IsIndex ws table (Ok (record { end = t.end; places = t.places; transitions = t.transitions; places_at = places; widths = widths; transitions_at = transitions }))
  whole-index e = record { same = all-read e; kept = x.kept }

  pub no-index : {e : Refusal} → r ≡ Err e → IsIndex ws table (Err e)
  no-index e = record { same = all-read e; kept = x.kept }

-- ── The calls ──

pub index-refused : (r : Reading Net) (e : Refusal) → net_read (Err e) ≡ changed net_outline r → r ≡ refusing e
index-refused r e x = changed-refused net_outline r (sym x)

module _ (ws : List ℕ) {s : Result ℕ Refusal} (x : skipped s ≡ forget (accept_net ws)) where
  pub checked_refused : {e : Refusal} → s ≡ Err e → verdict_of (Err e) ≡ check_call ws
  unfolding check_call
  checked_refused e = rw (passed-refused (accept_net ws) s x e)

  pub checked_accepted : {next : ℕ} → s ≡ Ok next → Accepted ≡ check_call ws
  unfolding check_call
  checked_accepted e = rw (passed-read (accept_net ws) s x e).1

pub front_ends : (ws : List ℕ) (s : Result ℕ Refusal) → skipped s ≡ forget (accept_front ws) → IsFront ws s
front_ends ws (Err e) x = record { same = x; inside = tt }
front_ends ws (Ok next) x = let r = passed-read (accept_front ws) (Ok next) x refl in record { same = x; inside = (front-inside ws r.0 next r.1).in_words }

pub split_next : (ws : List ℕ) {s : Result ℕ Refusal} {next : ℕ} → IsFront ws s → s ≡ Ok next → split_into (drop next ws) 0 0 ≡ split_call ws
unfolding split_call
split_next ws {s} f e = rw (passed-read (accept_front ws) s f.same e).1

pub split_refused : (ws : List ℕ) {s : Result ℕ Refusal} {e : Refusal} → IsFront ws s → s ≡ Err e → split_into [] (number_of e) (position_of e) ≡ split_call ws
unfolding split_call
split_refused ws {s} f e = rw (passed-refused (accept_front ws) s f.same e)

-- the part from next on, as the language makes it, is all that is after
pub split_part : (ws : List ℕ) {s : Result ℕ Refusal} {next : ℕ} → IsFront ws s → s ≡ Ok next → split_into (take (length ws - next) (drop next ws)) 0 0 ≡ split_call ws
split_part ws {s} {next} f e =
    let n = length-drop next ws in
    ap (λ (l : List ℕ). split_into l 0 0) (take_all (length ws - next) (drop next ws) (omega arith)) ∙ split_next ws f e
