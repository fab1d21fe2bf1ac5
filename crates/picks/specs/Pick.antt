-- What a pick leaves: the marking after it at the front of the buffer, or the marking before it and the refusal.
-- Rests on semantics/specs/Run, firing/specs/Fire, starts/specs/Known, net/specs/Parted and rests/specs/Rests.
use Rattle.std.specs.Prelude.{◌≡◌, true, List, ℕ, ◌+◌, ◌*◌, min, ◌≤◌, ◌<◌, length, take, drop, Result}
use Rattle.semantics.specs.Reading.{read}
use Rattle.semantics.specs.Expression.{house_table}
use Rattle.semantics.specs.Net.{Net}
use Rattle.semantics.specs.Plan.{accept_net}
use Rattle.semantics.specs.Marking.{Entry, pick_transition, counts_of, marking_words}
use Rattle.semantics.specs.Enabling.{Firing, moved, stopped, is_enabled}
use Rattle.semantics.specs.Run.{fire, pick}
use Rattle.semantics.specs.Calls.{limits}
use Rattle.net.specs.Places.{PlacesFit}
use Rattle.net.specs.Parted.{variables_in, inputs_in, outputs_in, guard_in, plan_in, FewParts}
use Rattle.marking.specs.Marked.{marking_read, Begins}
use Rattle.steps.specs.Steps.{BeginsThen}
use Rattle.firing.specs.Fire.{FireableAt}
use Rattle.arrivals.specs.World.{World}
use Rattle.search.specs.Scene.{net_of, counts_in, scene_of}
use Rattle.starts.specs.Known.{NetKnown}
use Rattle.rests.specs.Rests.{Rest, RestsKept}
use Rattle.semantics.specs.declared.refusal.Refusal.{Refusal}
use Rattle.semantics.specs.Answer.{Written, FireRefused, fired_of}

-- the marking after a firing at the front of the buffer, or the one before it and the refusal
abbrev pub Leaves : Net → List ℕ → ℕ → Result ℕ Refusal → List ℕ → Firing → Type 0
Leaves net buffer size r after (moved m) = (fired_of r ≡ Written (length (marking_words net m))) × (take (length (marking_words net m)) after ≡ marking_words net m)
Leaves net buffer size r after (stopped n) = (fired_of r ≡ FireRefused n 0) × (take size after ≡ take size buffer)

-- a binding of a transition, whose arcs stand at these positions, is enabled in the marking at the front of a buffer
pub record Fires (ws ps is os begins buffer : List ℕ) (size : ℕ) (bs : List ℕ) : Type 0 where
  pub fits : PlacesFit ws ps
  pub beginnings : length begins ≡ 65
  pub few-inputs : length is ≤ 8
  pub few-outputs : length os ≤ 8
  pub inside : size ≤ length buffer
  pub conjuncts : List ℕ
  pub fireable : FireableAt ws ps conjuncts is os (take size buffer) begins bs
  pub enabled : is_enabled house_table fireable.transition (counts_of fireable.entries) fireable.binding ≡ true

-- the words of the binding at an index of a menu, with v variables
abbrev pub row : ℕ → ℕ → List ℕ → List ℕ
row v index menu = take v (drop (index * v) menu)

-- the binding at an index of a menu is enabled, by the TRANSITION word and the 32 positions of its transition
pub record FiresRow (ws ps : List ℕ) (head : ℕ) (own begins buffer : List ℕ) (size : ℕ) (menu : List ℕ) (index : ℕ) : Type 0 where
  pub few : FewParts head
  pub long : length own ≡ 32
  pub within : index * variables_in head + variables_in head ≤ length menu
  pub fires : Fires ws ps (inputs_in head own) (outputs_in head own) begins buffer size (row (variables_in head) index menu)

-- what is left where an enabled binding is fired, wherever its conjuncts stand
pub record IsFiredAt (ws ps is os begins buffer : List ℕ) (size : ℕ) (spare bs : List ℕ) (r : Result ℕ Refusal) (after begins' : List ℕ) : Type 0 where
  pub fired : (gs : List ℕ) (q : FireableAt ws ps gs is os (take size buffer) begins bs) → is_enabled house_table q.transition (counts_of q.entries) q.binding ≡ true → Leaves q.net buffer size r after (fire house_table q.net (min (length buffer) (length spare)) q.transition (counts_of q.entries) q.binding)
  pub begun : (gs : List ℕ) (q : FireableAt ws ps gs is os (take size buffer) begins bs) → is_enabled house_table q.transition (counts_of q.entries) q.binding ≡ true → BeginsThen q.net begins begins' (fire house_table q.net (min (length buffer) (length spare)) q.transition (counts_of q.entries) q.binding)

-- the menu of the transition at a position may be listed, by its TRANSITION word, its 32 positions and the nine numbers that say what leaves look up
pub record Lists (ws ps : List ℕ) (position head : ℕ) (own rest ms begins : List ℕ) : Type 0 where
  pub few : FewParts head
  pub long : length own ≡ 32
  pub world : World ws ps position (variables_in head) (inputs_in head own) (guard_in head own) (plan_in head own) ms begins (scene_of ws position ms)
  pub tested : Rest ws ps head own rest

-- a pick of one of the net's transitions, whose parts and arcs to look up were kept, and an accepted marking at the front of a buffer, with where its
-- places begin
pub record Pickable (ws ps transitions parts rests begins buffer : List ℕ) (size w : ℕ) : Type 0 where
  pub known : NetKnown ws ps transitions parts (net_of (accept_net ws))
  pub rested : RestsKept ws ps transitions parts (length transitions) rests
  pub inside : size ≤ length buffer
  pub entries : List Entry
  pub end : ℕ
  pub marked : marking_read (net_of (accept_net ws)).places (take size buffer) ≡ read entries end
  pub full : length begins ≡ 65
  pub begun : Begins (net_of (accept_net ws)).places entries begins
  pub there : pick_transition w < length (net_of (accept_net ws)).transitions

pub record IsPicked (ws : List ℕ) (budget : ℕ) (begins buffer : List ℕ) (size : ℕ) (spare menu : List ℕ) (w : ℕ) (r : Result ℕ Refusal) (after begins' : List ℕ) : Type 0 where
  pub picked : Leaves (net_of (accept_net ws)) buffer size r after (pick house_table (net_of (accept_net ws)) (limits budget buffer spare menu) (counts_in (marking_read (net_of (accept_net ws)).places (take size buffer))) w)
  pub begun : BeginsThen (net_of (accept_net ws)) begins begins' (pick house_table (net_of (accept_net ws)) (limits budget buffer spare menu) (counts_in (marking_read (net_of (accept_net ws)).places (take size buffer))) w)
