-- The numbers of refusals and the limits of document 01, by name.
-- Rests on nothing.
use Rattle.std.specs.Prelude.{ℕ}

-- 01, "Refused for the input"
abbrev pub net_too_long : ℕ
net_too_long = 1

abbrev pub net_ends_early : ℕ
net_ends_early = 2

abbrev pub bad_word : ℕ
bad_word = 3

abbrev pub words_left : ℕ
words_left = 4

abbrev pub unfit_plan : ℕ
unfit_plan = 5

abbrev pub no_transition : ℕ
no_transition = 6

abbrev pub bad_marking : ℕ
bad_marking = 7

abbrev pub bad_binding : ℕ
bad_binding = 8

abbrev pub bad_pick : ℕ
bad_pick = 9

-- 01, "Refused for the state"
abbrev pub over_budget : ℕ
over_budget = 10

abbrev pub over_menu : ℕ
over_menu = 11

abbrev pub no_such_index : ℕ
no_such_index = 12

abbrev pub not_enabled : ℕ
not_enabled = 13

abbrev pub bad_output : ℕ
bad_output = 14

abbrev pub over_count : ℕ
over_count = 15

abbrev pub over_room : ℕ
over_room = 16

-- 01, "Words": a net and a marking have at most this many words
abbrev pub most_words : ℕ
most_words = 16384

-- 01, "Words": an expression has at most this many words
abbrev pub most_expression_words : ℕ
most_expression_words = 15

-- 01, "Enabling and stepping": the largest count of a colour on a place
abbrev pub most_count : ℕ
most_count = 16383

-- 01, refusal 11: the largest number of bindings that a menu holds
abbrev pub most_bindings : ℕ
most_bindings = 16383
