-- 01, "Words": what a net is, as data. Each structure holds the position of its first word.
-- Rests on Word and Expression.
use Rattle.std.specs.Prelude.{◌≡◌, ℕ, List, [], map, get_or}
use Rattle.semantics.specs.Word.{Range}
use Rattle.semantics.specs.Expression.{Expression}

-- a place has a range for each component of its colours
pub record Place : Type 0 where
  pub position : ℕ
  pub ranges : List Range

pub record Arc : Type 0 where
  pub position : ℕ
  pub place : ℕ
  pub coefficient : Expression
  pub components : List Expression

pub data Relation : Type 0 where
  equal unequal less at_most : Relation

pub record Conjunct : Type 0 where
  pub position : ℕ
  pub relation : Relation
  pub left : Expression
  pub right : Expression

-- "An element is a match, a solve or a range, with its number": of an input arc, of a conjunct, of a variable
pub data Sort : Type 0 where
  match solve range : ℕ → Sort

pub record Element : Type 0 where
  pub position : ℕ
  pub sort : Sort

-- 01's plan is an ordered pattern binding basis in source 000.
pub record Transition : Type 0 where
  pub position : ℕ
  pub variables : List Range
  pub inputs : List Arc
  pub outputs : List Arc
  pub guard : List Conjunct
  pub plan : List Element

pub record Net : Type 0 where
  pub places : List Place
  pub transitions : List Transition

-- the ranges of a place by its number, none where there is no such place
abbrev pub ranges_at : List Place → ℕ → List Range
ranges_at places p = get_or (map (λ (q : Place). q.ranges) places) p []

-- A net with positions and plans set aside. Two accepted nets "differ only in elements and E" where these are the same.
abbrev pub bare_place : Place → Place
bare_place q = record { position = 0; ranges = q.ranges }

abbrev pub bare_arc : Arc → Arc
bare_arc a = record { position = 0; place = a.place; coefficient = a.coefficient; components = a.components }

abbrev pub bare_conjunct : Conjunct → Conjunct
bare_conjunct c = record { position = 0; relation = c.relation; left = c.left; right = c.right }

abbrev pub bare_transition : Transition → Transition
bare_transition t = record { position = 0; variables = t.variables; inputs = map bare_arc t.inputs; outputs = map bare_arc t.outputs; guard = map bare_conjunct t.guard; plan = [] }

abbrev pub bare_net : Net → Net
bare_net net = record { places = map bare_place net.places; transitions = map bare_transition net.transitions }

abbrev pub DifferInPlans : Net → Net → Type 0
DifferInPlans n n' = bare_net n ≡ bare_net n'
