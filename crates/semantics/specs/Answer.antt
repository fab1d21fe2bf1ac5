-- What the calls answer, as the paper's numbers and values, and how the answers that src/ declares tell them.
-- Rests on src/, Refusal and Reading.
use Rattle.std.specs.Prelude.{ℕ, Bool, true, false, Option, Some, None, Result, Ok, Err}
use Rattle.std.proofs.Math.Option as definitions
use Rattle.std.proofs.Math.Option.{some, none}
use Rattle.semantics.specs.declared.Listed.{Listed as TheListed}
use Rattle.semantics.specs.declared.Outcome.{Outcome as TheOutcome}
use Rattle.semantics.specs.declared.refusal.Refusal.{Refusal as TheRefusal}
use Rattle.semantics.specs.declared.refusal.Refusal.TheVariants.{NetTooLong, NetEndsEarly, BadWord, WordsLeft, UnfitPlan, NoTransition, BadMarking, BadBinding, BadPick, OverBudget, OverMenu, NoSuchIndex, NotEnabled, BadOutput, OverCount, OverRoom}
use Rattle.semantics.specs.Refusal.{net_too_long, net_ends_early, bad_word, words_left, unfit_plan, no_transition, bad_marking, bad_binding, bad_pick, over_budget, over_menu, no_such_index, not_enabled, bad_output, over_count, over_room}
use Rattle.semantics.specs.Reading.{Reading, refused}

-- an Option of src/ as the definitions have it
abbrev pub option_of : {A : Type 0} → Option A → definitions.Option A
option_of (Some a) = some a
option_of None = none

-- the number of a refusal
abbrev pub number_of : TheRefusal → ℕ
number_of (NetTooLong p) = net_too_long
number_of (NetEndsEarly p) = net_ends_early
number_of (BadWord p) = bad_word
number_of (WordsLeft p) = words_left
number_of (UnfitPlan p) = unfit_plan
number_of (NoTransition p) = no_transition
number_of (BadMarking p) = bad_marking
number_of (BadBinding p) = bad_binding
number_of (BadPick p) = bad_pick
number_of OverBudget = over_budget
number_of OverMenu = over_menu
number_of NoSuchIndex = no_such_index
number_of NotEnabled = not_enabled
number_of BadOutput = bad_output
number_of OverCount = over_count
number_of OverRoom = over_room

-- its position, 0 for those for the state
abbrev pub position_of : TheRefusal → ℕ
position_of (NetTooLong p) = p
position_of (NetEndsEarly p) = p
position_of (BadWord p) = p
position_of (WordsLeft p) = p
position_of (UnfitPlan p) = p
position_of (NoTransition p) = p
position_of (BadMarking p) = p
position_of (BadBinding p) = p
position_of (BadPick p) = p
position_of OverBudget = 0
position_of OverMenu = 0
position_of NoSuchIndex = 0
position_of NotEnabled = 0
position_of BadOutput = 0
position_of OverCount = 0
position_of OverRoom = 0

-- A refusal's number and position, 0 and 0 for none.
pub record Refusal : Type 0 where
  pub number : ℕ
  pub position : ℕ

abbrev pub unrefused : Refusal
unrefused = record { number = 0; position = 0 }

-- what is told of a refusal
abbrev pub told_of : TheRefusal → Refusal
told_of e = record { number = number_of e; position = position_of e }

-- the same as a reading
abbrev pub refusing : {A : Type 0} → TheRefusal → Reading A
refusing e = refused (number_of e) (position_of e)

-- Check: accepted, or refused with a number at a position.
pub data Verdict : Type 0 where
  Accepted : Verdict
  CheckRefused : ℕ → ℕ → Verdict

-- Test: whether the binding is enabled.
pub data Tested : Type 0 where
  Yes : Tested
  No : Tested
  TestRefused : ℕ → ℕ → Tested

-- Menu: the number of enabled bindings, N, and the tries of the transition's plan, W.
pub data Listed : Type 0 where
  Found : ℕ → ℕ → Listed
  MenuRefused : ℕ → ℕ → Listed

-- Fire: the length of the new marking in words.
pub data Fired : Type 0 where
  Written : ℕ → Fired
  FireRefused : ℕ → ℕ → Fired

-- Run: picks done, the number of the refusal that ended it and its position (0 and 0 for none), and the marking's length in words.
pub record Outcome : Type 0 where
  pub done : ℕ
  pub refusal : ℕ
  pub position : ℕ
  pub length : ℕ

-- ── What the answers of src/ tell ──

abbrev pub verdict_of : Result (Unit {0}) TheRefusal → Verdict
verdict_of (Ok u) = Accepted
verdict_of (Err e) = CheckRefused (number_of e) (position_of e)

abbrev pub tested_of : Result Bool TheRefusal → Tested
tested_of (Ok true) = Yes
tested_of (Ok false) = No
tested_of (Err e) = TestRefused (number_of e) (position_of e)

abbrev pub listed_of : Result TheListed TheRefusal → Listed
listed_of (Ok r) = Found r.bindings r.tries
listed_of (Err e) = MenuRefused (number_of e) (position_of e)

abbrev pub fired_of : Result ℕ TheRefusal → Fired
fired_of (Ok n) = Written n
fired_of (Err e) = FireRefused (number_of e) (position_of e)

-- the refusal that ended a run, if one did
abbrev pub stop_of : Option TheRefusal → Refusal
stop_of None = unrefused
stop_of (Some e) = told_of e

abbrev pub outcome_of : TheOutcome → Outcome
outcome_of r = record { done = r.done; refusal = (stop_of r.stopped).number; position = (stop_of r.stopped).position; length = r.length }

-- ── The numbers and values of each case ──

abbrev pub check_refusal : Verdict → Refusal
check_refusal Accepted = unrefused
check_refusal (CheckRefused n p) = record { number = n; position = p }

abbrev pub test_refusal : Tested → Refusal
test_refusal Yes = unrefused
test_refusal No = unrefused
test_refusal (TestRefused n p) = record { number = n; position = p }

-- 1 for yes, 0 for no and where the call is refused
abbrev pub test_yes : Tested → ℕ
test_yes Yes = 1
test_yes No = 0
test_yes (TestRefused n p) = 0

abbrev pub menu_refusal : Listed → Refusal
menu_refusal (Found n w) = unrefused
menu_refusal (MenuRefused n p) = record { number = n; position = p }

-- N, the number of enabled bindings
abbrev pub menu_bindings : Listed → ℕ
menu_bindings (Found n w) = n
menu_bindings (MenuRefused n p) = 0

-- W, the tries
abbrev pub menu_tries : Listed → ℕ
menu_tries (Found n w) = w
menu_tries (MenuRefused n p) = 0

abbrev pub fire_refusal : Fired → Refusal
fire_refusal (Written n) = unrefused
fire_refusal (FireRefused n p) = record { number = n; position = p }

abbrev pub fire_length : Fired → ℕ
fire_length (Written n) = n
fire_length (FireRefused n p) = 0
