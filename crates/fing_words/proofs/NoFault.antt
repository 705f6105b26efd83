-- Words that the parse of the simple command finds no fault in are words that it takes.
-- Main results: taken.
use Rattle.std.proofs.Common.{◌≡◌, ◌&&◌, ◌||◌, not, ℕ, Bool, true, false, zero, suc, List, [], ◌∷◌, Option, Some, None, is_some, length, drop, refl, arith}
use Rattle.std.specs.Prelude.{if◌then◌else◌, nat_le, codes, encode_utf8, slice_get}
use Rattle.std.specs.Cmp.Derive.{both_true}
use Rattle.std.specs.List.{list_all}
use Rattle.std.specs.Option.{option_map_or}
use Rattle.std.specs.Str.{bytes_eq, chars}
use Rattle.std.proofs.lemmas.Bool.Decides.{nat_tests}
use Rattle.clap.specs.Facts.{parser_of_value, unwrap_or_range}
use Rattle.clap.specs.Kinds.{Kinds, or_else, range_kinds, value_kinds}
use Rattle.clap.specs.Lexer.{long_of, short_of}
use Rattle.clap.specs.ValueTests.{accepts}
use Rattle.clap.specs.Values.{refused_kind}
use Rattle.clap.specs.Walk.{Held, Names, Row, Rule, Step, Text, Waiting, Walk, next, trailing, subcommand, value, action_of, arg_by_id, arg_by_index, arg_by_long, arg_by_short, attached_value, finished, has_row, is_pending, most_values, nothing_held, reacted, settled, subcommand_met, takes_several, takes_values, values_or_missing, walk, walk_from, walked, word_met}
use Rattle.clap.specs.Simple.{Shape, built, entered}
use Rattle.clap.specs.Takes.{action_passes, bundle_step_passes, default_passes, flag_word_passes, flags_pass, is_given, is_valid, level_passes, long_passes, option_passes, other_passes, positional_passes, react_passes, settle_passes, short_passes, step_passes, takes, turn_passes, use_passes, value_passes, values_pass, walk_passes, word_passes}
use Rattle.clap.specs.Faults.{action_fault, bundle_step_fault, check_fault, defaults_fault, entered_fault, fault_of, flag_word_fault, flags_fault, level_fault, long_fault, option_fault, other_fault, positional_fault, react_fault, repeat_fault, settle_fault, short_fault, step_fault, stray_fault, turn_fault, use_fault, values_fault, walk_fault, word_fault}
use Rattle.clap.specs.declared.builder.action.ArgAction.{ArgAction}
use Rattle.clap.specs.declared.builder.action.ArgAction.TheVariants.{Set, Append, SetTrue, SetFalse, Count, Help, HelpShort, HelpLong, Version}
use Rattle.clap.specs.declared.builder.value_parser.ValueParser.{ValueParser}
use Rattle.clap.specs.declared.error.kind.ErrorKind.TheVariants as kind
use Rattle.clap.proofs.TakesLemmas.{leaf_takes}
use Rattle.fing_words.specs.SimpleCommand.{simple_command}

-- ---- steps in turn

abbrev no_kinds : Kinds
no_kinds = []

first_passed : (a b : Kinds) → or_else a b ≡ no_kinds → a ≡ no_kinds
first_passed [] b e = refl
first_passed (k ∷ ks) b e = e

next_passed : (a b : Kinds) → or_else a b ≡ no_kinds → b ≡ no_kinds
next_passed [] b e = e
next_passed (k ∷ ks) b e = cc

in_turn : (a b : Kinds) (p q : Bool) → (a ≡ no_kinds → p ≡ true) → (b ≡ no_kinds → q ≡ true) → or_else a b ≡ no_kinds → (p && q) ≡ true
in_turn a b p q f g e = both_true (f (first_passed a b e)) (g (next_passed a b e))

-- ---- one use of an argument

value_passed : (i : Bool) (p : ValueParser) (t : Text) → value_kinds i p t ≡ no_kinds → accepts i p t ≡ true
value_passed i p t = go (accepts i p t)
  where
    go : (b : Bool) → (if b then no_kinds else refused_kind p ∷ []) ≡ no_kinds → b ≡ true
    go true e = refl
    go false e = cc

values_passed : (a : Rule) (vs : List Text) → values_fault a vs ≡ no_kinds → values_pass a vs ≡ true
values_passed a [] e = refl
values_passed a (v ∷ vs) e =
    in_turn (value_kinds a.ignore_case (parser_of_value a.parser) v) (values_fault a vs) (value_passes a v) (values_pass a vs)
    (value_passed a.ignore_case (parser_of_value a.parser) v) (values_passed a vs) e

repeat_passed : (again : Bool) (id : Text) (rows : List Row) → repeat_fault again id rows ≡ no_kinds → (not (has_row id rows) || again) ≡ true
repeat_passed again id rows = go (has_row id rows) again
  where
    go : (h g : Bool) → (if h && not g then kind.ArgumentConflict ∷ [] else no_kinds) ≡ no_kinds → (not h || g) ≡ true
    go true true e = refl
    go true false e = cc
    go false g e = refl

set_passed : (again : Bool) (a : Rule) (vs : List Text) (rows : List Row) → or_else (repeat_fault again a.id rows) (values_fault a vs) ≡ no_kinds
    → ((not (has_row a.id rows) || again) && values_pass a vs) ≡ true
set_passed again a vs rows e =
    in_turn (repeat_fault again a.id rows) (values_fault a vs) (not (has_row a.id rows) || again) (values_pass a vs)
    (repeat_passed again a.id rows) (values_passed a vs) e

action_passed : (x : ArgAction) (again : Bool) (a : Rule) (vs : List Text) (rows : List Row) → action_fault x again a vs rows ≡ no_kinds
    → action_passes x again a vs rows ≡ true
action_passed Set again a vs rows e = set_passed again a vs rows e
action_passed SetTrue again a vs rows e = set_passed again a vs rows e
action_passed SetFalse again a vs rows e = set_passed again a vs rows e
action_passed Append again a vs rows e = values_passed a vs e
action_passed Count again a [] rows e = value_passed a.ignore_case (parser_of_value a.parser) _ e
action_passed Count again a (v ∷ vs) rows e = values_passed a (v ∷ vs) e
action_passed Help again a vs rows e = cc
action_passed HelpShort again a vs rows e = cc
action_passed HelpLong again a vs rows e = cc
action_passed Version again a vs rows e = cc

in_range : (least most n : ℕ) → range_kinds least most n ≡ no_kinds → (nat_le least n ≡ true) × (nat_le n most ≡ true)
in_range least most n e = grind (arith, nat_tests)

use_passed : (again : Bool) (a : Rule) (vs : List Text) (rows : List Row) → use_fault again a vs rows ≡ no_kinds → use_passes again a vs rows ≡ true
use_passed again a vs rows e =
    let range = range_kinds (unwrap_or_range a.range).start_inclusive (most_values a) (length vs) in
    let action = action_fault (action_of a) again a (values_or_missing a vs) rows in
    let within = in_range (unwrap_or_range a.range).start_inclusive (most_values a) (length vs) (first_passed range action e) in
    both_true within.0 (both_true within.1 (action_passed (action_of a) again a (values_or_missing a vs) rows (next_passed range action e)))

-- ---- the walk

settle_passed : (c : List Rule) (again : Bool) (h : Held) → settle_fault c again h ≡ no_kinds → settle_passes c again h ≡ true
settle_passed c again h = go h.pending
  where
    by_id : (p : Text × List Text) (o : Option Rule) → option_map_or (λ a. use_fault again a p.1 h.rows) o no_kinds ≡ no_kinds
        → option_map_or (λ a. use_passes again a p.1 h.rows) o true ≡ true
    by_id p None e = refl
    by_id p (Some a) e = use_passed again a p.1 h.rows e

    go : (o : Option (Text × List Text))
        → option_map_or (λ p. option_map_or (λ a. use_fault again a p.1 h.rows) (arg_by_id c p.0) no_kinds) o no_kinds ≡ no_kinds
        → option_map_or (λ p. option_map_or (λ a. use_passes again a p.1 h.rows) (arg_by_id c p.0) true) o true ≡ true
    go None e = refl
    go (Some p) e = by_id p (arg_by_id c p.0) e

react_passed : (c : List Rule) (again : Bool) (a : Rule) (vs : List Text) (h : Held) → react_fault c again a vs h ≡ no_kinds → react_passes c again a vs h ≡ true
react_passed c again a vs h e =
    in_turn (settle_fault c again h) (use_fault again a vs (settled c h).rows) (settle_passes c again h) (use_passes again a vs (settled c h).rows)
    (settle_passed c again h) (use_passed again a vs (settled c h).rows) e

option_passed : (c : List Rule) (again : Bool) (a : Rule) (v : Option Text) (h : Held) → option_fault c again a v h ≡ no_kinds
    → option_passes c again a v h ≡ true
option_passed c again a (Some v) h e = react_passed c again a (v ∷ []) h e
option_passed c again a None h e = settle_passed c again h e

flag_passed : (c : List Rule) (again : Bool) (a : Rule) (v : Option Text) (h : Held)
    → (if is_some v then kind.TooManyValues ∷ [] else react_fault c again a [] h) ≡ no_kinds
    → (not (is_some v) && react_passes c again a [] h) ≡ true
flag_passed c again a None h e = react_passed c again a [] h e
flag_passed c again a (Some v) h e = cc

long_passed : (c : List Rule) (again : Bool) (o : Option Rule) (v : Option Text) (h : Held) → long_fault c again o v h ≡ no_kinds
    → long_passes c again o v h ≡ true
long_passed c again None v h e = cc
long_passed c again (Some a) v h e = go (takes_values a) e
  where
    go : (b : Bool)
        → (if b then option_fault c again a v h else (if is_some v then kind.TooManyValues ∷ [] else react_fault c again a [] h)) ≡ no_kinds
        → (if b then option_passes c again a v h else (not (is_some v) && react_passes c again a [] h)) ≡ true
    go true e = option_passed c again a v h e
    go false e = flag_passed c again a v h e

short_passed : (c : List Rule) (again : Bool) (o : Option Rule) (rest : Text) (h : Held) (faults : Held → Kinds) (passes : Held → Bool)
    → ((g : Held) → faults g ≡ no_kinds → passes g ≡ true) → short_fault c again o rest h faults ≡ no_kinds → short_passes c again o rest h passes ≡ true
short_passed c again None rest h faults passes f e = cc
short_passed c again (Some a) rest h faults passes f e = go (takes_values a) e
  where
    go : (b : Bool)
        → (if b then option_fault c again a (attached_value rest) h else or_else (react_fault c again a [] h) (faults (reacted c a [] h))) ≡ no_kinds
        → (if b then option_passes c again a (attached_value rest) h else (react_passes c again a [] h && passes (reacted c a [] h))) ≡ true
    go true e = option_passed c again a (attached_value rest) h e
    go false e =
        in_turn (react_fault c again a [] h) (faults (reacted c a [] h)) (react_passes c again a [] h) (passes (reacted c a [] h))
        (react_passed c again a [] h) (f (reacted c a [] h)) e

bundle_passed : (c : List Rule) (again : Bool) (o : Option ℕ) (flags : Text) (skip : ℕ) (h : Held) (faults : Text → ℕ → Held → Kinds) (passes : Text → ℕ → Held → Bool)
    → ((t : Text) (n : ℕ) (g : Held) → faults t n g ≡ no_kinds → passes t n g ≡ true)
    → bundle_step_fault c again o flags skip h faults ≡ no_kinds → bundle_step_passes c again o flags skip h passes ≡ true
bundle_passed c again None flags skip h faults passes f e = refl
bundle_passed c again (Some x) flags zero h faults passes f e =
    let rest = drop (length (encode_utf8 x)) flags in
    short_passed c again (arg_by_short c x) rest h (faults rest 0) (passes rest 0) (f rest 0) e
bundle_passed c again (Some x) flags (suc skip) h faults passes f e = f (drop (length (encode_utf8 x)) flags) skip h e

flags_passed : (c : List Rule) (again : Bool) (k : ℕ) (flags : Text) (skip : ℕ) (h : Held) → flags_fault c again k flags skip h ≡ no_kinds
    → flags_pass c again k flags skip h ≡ true
unfolding flags_fault flags_pass
flags_passed c again zero flags skip h e = refl
flags_passed c again (suc k) flags skip h e =
    bundle_passed c again (slice_get (chars flags) 0) flags skip h (flags_fault c again k) (flags_pass c again k) (flags_passed c again k) e

flag_word_passed : (c : List Rule) (again : Bool) (o : Option (Text × Option Text)) (word : Text) (h : Held) → flag_word_fault c again o word h ≡ no_kinds
    → flag_word_passes c again o word h ≡ true
flag_word_passed c again (Some p) word h e = long_passed c again (arg_by_long c p.0) p.1 h e
flag_word_passed c again None word h e = go (short_of word) e
  where
    go : (o : Option Text)
        → option_map_or (λ flags. flags_fault c again (length flags) flags h.skip (record h { skip = 0 })) o no_kinds ≡ no_kinds
        → option_map_or (λ flags. flags_pass c again (length flags) flags h.skip (record h { skip = 0 })) o true ≡ true
    go None e = refl
    go (Some flags) e = flags_passed c again (length flags) flags h.skip (record h { skip = 0 }) e

other_passed : (s : Shape) (o : Option Text) (word : Text) (h : Held) → other_fault s o word h ≡ no_kinds → other_passes s o word h ≡ true
other_passed s (Some name) word h = go (bytes_eq name (codes "help")) s.disable_help_subcommand
  where
    go : (b d : Bool)
        → (if b && not d then kind.DisplayHelp ∷ kind.InvalidSubcommand ∷ [] else no_kinds) ≡ no_kinds
        → (not b || d) ≡ true
    go true true e = refl
    go true false e = cc
    go false d e = refl
other_passed s None word h = go (bytes_eq word (45 ∷ 45 ∷ []))
  where
    go : (b : Bool) → (if b then no_kinds else flag_word_fault s.rules s.args_override_self (long_of word) word h) ≡ no_kinds
        → (b || flag_word_passes s.rules s.args_override_self (long_of word) word h) ≡ true
    go true e = refl
    go false e = flag_word_passed s.rules s.args_override_self (long_of word) word h e

word_passed : (s : Shape) (names : Names) (is_trailing : Bool) (waiting : Waiting) (word : Text) (h : Held)
    → word_fault s names is_trailing waiting word h ≡ no_kinds → word_passes s names is_trailing waiting word h ≡ true
word_passed s names true waiting word h e = refl
word_passed s names false waiting word h e = other_passed s (subcommand_met names waiting word) word h e

positional_passed : (c : List Rule) (again : Bool) (a : Rule) (h : Held) → positional_fault c again a h ≡ no_kinds → positional_passes c again a h ≡ true
positional_passed c again a h = go (is_pending a h.pending && takes_several a)
  where
    go : (b : Bool) → (if b then no_kinds else settle_fault c again h) ≡ no_kinds → (b || settle_passes c again h) ≡ true
    go true e = refl
    go false e = settle_passed c again h e

no_stray : (s : Shape) → stray_fault s ≡ no_kinds → false ≡ true
no_stray s = go s.is_leaf
  where
    go : (b : Bool)
        → (if b then kind.UnknownArgument ∷ [] else kind.UnknownArgument ∷ kind.InvalidSubcommand ∷ []) ≡ no_kinds
        → false ≡ true
    go true e = cc
    go false e = cc

step_passed : (s : Shape) (position : ℕ) (h : Held) (step : Step) → step_fault s position h step ≡ no_kinds → step_passes s position h step ≡ true
step_passed s position h value e = go (arg_by_index s.rules position) e
  where
    go : (o : Option Rule) → option_map_or (λ a. positional_fault s.rules s.args_override_self a h) o (stray_fault s) ≡ no_kinds
        → option_map_or (λ a. positional_passes s.rules s.args_override_self a h) o false ≡ true
    go None e = no_stray s e
    go (Some a) e = positional_passed s.rules s.args_override_self a h e
step_passed s position h (next waiting) e = refl
step_passed s position h (trailing p) e = refl
step_passed s position h (subcommand name) e = refl

turn_passed : (s : Shape) (names : Names) (w : Walk) (word : Text) → turn_fault s names w word ≡ no_kinds → turn_passes s names w word ≡ true
turn_passed s names w word = go (is_some w.stopped)
  where
    met : Held × Step
    met = word_met s.rules names w.is_trailing w.waiting w.position word w.held

    go : (b : Bool)
        → (if b then no_kinds else or_else (word_fault s names w.is_trailing w.waiting word w.held) (step_fault s w.position met.0 met.1)) ≡ no_kinds
        → (b || (word_passes s names w.is_trailing w.waiting word w.held && step_passes s w.position met.0 met.1)) ≡ true
    go true e = refl
    go false e =
        in_turn (word_fault s names w.is_trailing w.waiting word w.held) (step_fault s w.position met.0 met.1)
        (word_passes s names w.is_trailing w.waiting word w.held) (step_passes s w.position met.0 met.1)
        (word_passed s names w.is_trailing w.waiting word w.held) (step_passed s w.position met.0 met.1) e

walk_passed : (s : Shape) (names : Names) (w : Walk) (words : List Text) → walk_fault s names w words ≡ no_kinds → walk_passes s names w words ≡ true
unfolding walk_fault walk_passes
walk_passed s names w [] e = refl
walk_passed s names w (word ∷ rest) e =
    in_turn (turn_fault s names w word) (walk_fault s names (walked s.rules names w word) rest)
    (turn_passes s names w word) (walk_passes s names (walked s.rules names w word) rest)
    (turn_passed s names w word) (walk_passed s names (walked s.rules names w word) rest) e

-- ---- the simple command

-- one level, of a command without defaults that fail, and where the last checks pass
level_passed : (s : Shape) (words : List Text) → list_all default_passes s.rules ≡ true
    → ((rows : List Row) → check_fault s rows false ≡ no_kinds → is_valid s rows false ≡ true)
    → level_fault s [] nothing_held words false no_kinds ≡ no_kinds → level_passes s [] nothing_held words false ≡ true
level_passed s words defaults valid e =
    let end = (walk s.rules [] nothing_held words).held in
    let walking = walk_fault s [] (walk_from nothing_held) words in
    let settling = settle_fault s.rules s.args_override_self end in
    let defaulting = defaults_fault (settled s.rules end).rows s.rules in
    let checking = check_fault s (finished s.rules end) false in
    let after = next_passed walking (or_else settling (or_else defaulting checking)) e in
    let last = next_passed defaulting checking (next_passed settling (or_else defaulting checking) after) in
    both_true (walk_passed s [] (walk_from nothing_held) words (first_passed walking (or_else settling (or_else defaulting checking)) e))
    (both_true (settle_passed s.rules s.args_override_self end (first_passed settling (or_else defaulting checking) after))
    (both_true defaults (valid (finished s.rules end) last)))

abbrev top : Shape
top = (built simple_command).top

-- its one required argument is given
valid_passed : (rows : List Row) → check_fault top rows false ≡ no_kinds → is_valid top rows false ≡ true
valid_passed rows = go (is_given (codes "command") rows)
  where
    go : (b : Bool) → (if not b || false then kind.MissingRequiredArgument ∷ [] else no_kinds) ≡ no_kinds → (b && true) ≡ true
    go true e = refl
    go false e = cc

-- the command has no subcommand at which a walk could stop
alone : (words : List Text) (stop : Option (Text × List Text))
    → level_fault top [] nothing_held words (is_some (entered (built simple_command) stop)) (entered_fault (built simple_command) stop) ≡ no_kinds
    → level_fault top [] nothing_held words false no_kinds ≡ no_kinds
alone words None e = e
alone words (Some p) e = e

-- words without a fault are taken
pub taken : (words : List Text) → fault_of simple_command words ≡ no_kinds → takes simple_command words ≡ true
taken words e =
    leaf_takes (built simple_command) nothing_held words refl
    (level_passed top words refl valid_passed (alone words (walk top.rules [] nothing_held words).stopped e))
