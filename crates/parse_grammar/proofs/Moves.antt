-- Reading by a list of the symbols that are still wanted, one symbol at a time.
-- Main results: at_start, on_rest.
use Rattle.std.proofs.Common.{◌≡◌, ℕ, suc, Bool, true, false, ◌&&◌, ◌||◌, not, eqb, max, cond, ◌+◌, ◌-◌, ◌*◌, ◌<◌, refl, sym, ◌∙◌, ap, subst, List, [], ◌∷◌, ◌++◌, length, length-append, append_assoc, eqb-true, arith}
use Rattle.std.specs.Prelude.{Option, None, Some, option_map}
use Rattle.fing_lexer.specs.declared.token.Token.{Token}
use Rattle.parse_grammar.specs.Grammar.{Terminal, kind_of, Class, Symbol, token, phrase, Rule, rhs}
use Rattle.parse_grammar.specs.Meaning.{Value, Values, act}
use Rattle.parse_grammar.specs.Program.{Start, Farthest}
use Rattle.parse_grammar.specs.Reading.{Run, got, stop, spent, next, ahead, by_token, by_rule, reads, lead, need}
use Rattle.parse_grammar.specs.Tables.{number_of, choose, can_be_empty, rank}
use Rattle.parse_grammar.specs.Tree.{Trees, end, leaf, node, spelling, Phrase}
use Rattle.parse_grammar.specs.Inner.View.{any}
use Rattle.parse_grammar.specs.Inner.Moves.{Move, shift, by, pushed, by_number, any_move, advance, track}
use Rattle.parse_grammar.proofs.Sets.{all_empty}
use Rattle.parse_grammar.proofs.Checks.{same_terminal}
use Rattle.parse_grammar.proofs.Empties.{empties}
use Rattle.parse_grammar.proofs.Ends.{reads_none, reads_no_token, reads_token, reads_phrase, lead_rule, length_rule, empty_rule, lead_above, lead_rest, token_behind}
use Rattle.parse_grammar.proofs.Laws.{stop_is_farthest, rest_is_farthest}

pub data Ending : Type 0 where
  over : List Token → Ending
  halted : List Token → Ending
  never : Ending

-- how a run ends, without its trees
abbrev pub ended : {A : Type 0} → Run A → Ending
ended (got a x) = over x
ended (stop x) = halted x
ended spent = never

-- these symbols are wanted behind the moves, and these tokens are left
pub record Reached (m : Class) (tokens rest : List Token) (wanted : List Symbol) (moves : List Move) : Type 0 where
  pub taken : List Token
  pub split : taken ++ rest ≡ tokens
  pub grows : (c : Trees wanted) → (d : Trees (phrase m ∷ [])) × (spelling d ≡ taken ++ spelling c) × (track d [] ≡ track c moves)
  pub ends : ended (reads wanted rest) ≡ ended (reads (phrase m ∷ []) tokens)

-- no phrase of the class, and the longest front that begins one is so long
pub record WrongAt (m : Class) (tokens : List Token) (at : ℕ) : Type 0 where
  pub farthest : Farthest m tokens at
  pub none : (p : Value m) → Phrase m tokens p → ⊥

ended_map : {A B : Type 0} (f : A → B) (z : Run A) → ended (next z (λ v x. got (f v) x)) ≡ ended z
ended_map f (got a x) = refl
ended_map f (stop x) = refl
ended_map f spent = refl

next_map : {A B C : Type 0} (f : A → B) (k : List Token → Run C) (z : Run A) → next (next z (λ v x. got (f v) x)) (λ v x. k x) ≡ next z (λ v x. k x)
next_map f k (got a x) = refl
next_map f k (stop x) = refl
next_map f k spent = refl

-- symbols and then symbols
join : (xs ys : List Symbol) (ts : List Token) → ended (reads (xs ++ ys) ts) ≡ ended (next (reads xs ts) (λ v x. reads ys x))
join [] ys ts = ap (λ z. ended (next z (λ v x. reads ys x))) (sym (reads_none ts))
join (token k ∷ xs) ys [] = ap ended (reads_no_token k (xs ++ ys)) ∙ ap (λ z. ended (next z (λ v x. reads ys x))) (sym (reads_no_token k xs))
join (token k ∷ xs) ys (t ∷ ts) =
    ap ended (reads_token k (xs ++ ys) t ts)
    ∙ go (eqb (number_of (kind_of t)) (number_of k)) (join xs ys ts)
    ∙ ap (λ z. ended (next z (λ v x. reads ys x))) (sym (reads_token k xs t ts))
  where
    go : (b : Bool) → ended (reads (xs ++ ys) ts) ≡ ended (next (reads xs ts) (λ v x. reads ys x))
        → ended (by_token b (reads (xs ++ ys) ts) t ts) ≡ ended (next (by_token b (reads xs ts) t ts) (λ v x. reads ys x))
    go true ih = ended_map (λ vs. (t, vs)) (reads (xs ++ ys) ts) ∙ ih ∙ ap ended (sym (next_map (λ vs. (t, vs)) (λ x. reads ys x) (reads xs ts)))
    go false ih = refl
join (phrase n ∷ xs) ys ts =
    ap ended (reads_phrase n (xs ++ ys) ts)
    ∙ go (choose n (ahead ts)) (λ mid. join xs ys mid)
    ∙ ap (λ z. ended (next z (λ v x. reads ys x))) (sym (reads_phrase n xs ts))
  where
    A : (r : Rule n) → Run (Values (rhs r)) → Run (Value n × Values (xs ++ ys))
    A r z = next z (λ ws mid. next (reads (xs ++ ys) mid) (λ vs rest. got (act r ws, vs) rest))

    B : (r : Rule n) → Run (Values (rhs r)) → Run (Value n × Values xs)
    B r z = next z (λ ws mid. next (reads xs mid) (λ vs rest. got (act r ws, vs) rest))

    inside : (r : Rule n) (z : Run (Values (rhs r))) → ((mid : List Token) → ended (reads (xs ++ ys) mid) ≡ ended (next (reads xs mid) (λ v x. reads ys x)))
        → ended (A r z) ≡ ended (next (B r z) (λ v x. reads ys x))
    inside r (got ws mid) ih =
        ended_map (λ vs. (act r ws, vs)) (reads (xs ++ ys) mid) ∙ ih mid
        ∙ ap ended (sym (next_map (λ vs. (act r ws, vs)) (λ x. reads ys x) (reads xs mid)))
    inside r (stop x) ih = refl
    inside r spent ih = refl

    go : (o : Option (Rule n)) → ((mid : List Token) → ended (reads (xs ++ ys) mid) ≡ ended (next (reads xs mid) (λ v x. reads ys x)))
        → ended (by_rule (xs ++ ys) reads o ts) ≡ ended (next (by_rule xs reads o ts) (λ v x. reads ys x))
    go None ih = refl
    go (Some r) ih = inside r (reads (rhs r) ts) ih

-- trees of symbols and then symbols
record Cut (xs ys : List Symbol) (c : Trees (xs ++ ys)) : Type 0 where
  front : Trees xs
  behind : Trees ys
  spelled : spelling c ≡ spelling front ++ spelling behind
  tracked : (ms : List Move) → track c ms ≡ track behind (track front ms)

cut : (xs ys : List Symbol) (c : Trees (xs ++ ys)) → Cut xs ys c
cut [] ys c = record { front = end; behind = c; spelled = refl; tracked = λ ms. refl }
cut (token k ∷ xs) ys (leaf t e ts) =
    let i : Cut xs ys ts = cut xs ys ts in
    record { front = leaf t e i.front; behind = i.behind; spelled = ap (λ z. t ∷ z) i.spelled; tracked = λ ms. i.tracked (shift t ∷ ms) }
cut (phrase n ∷ xs) ys (node r cs ts) =
    let i : Cut xs ys ts = cut xs ys ts in
    record {
      front = node r cs i.front;
      behind = i.behind;
      spelled = ap (λ z. spelling cs ++ z) i.spelled ∙ sym (append_assoc (spelling cs) (spelling i.front) (spelling i.behind));
      tracked = λ ms. i.tracked (track cs (by (any r) ∷ ms));
    }

-- at the start the class is wanted, and no tokens are taken
pub at_start : (m : Class) (tokens : List Token) → Reached m tokens tokens (phrase m ∷ []) []
at_start m tokens = record { taken = []; split = refl; grows = λ c. (c, refl, refl); ends = refl }

token_taken : {m : Class} {tokens rest : List Token} {ss : List Symbol} {ms : List Move} (k : Terminal) (t : Token) → eqb (number_of (kind_of t)) (number_of k) ≡ true
    → Reached m tokens (t ∷ rest) (token k ∷ ss) ms → Reached m tokens rest ss (shift t ∷ ms)
token_taken {m} {tokens} {rest} {ss} {ms} k t e i = record {
  taken = i.taken ++ t ∷ [];
  split = append_assoc i.taken (t ∷ []) rest ∙ i.split;
  grows = grows;
  ends = sym (ended_map (λ vs. (t, vs)) (reads ss rest)) ∙ ap (λ b. ended (by_token b (reads ss rest) t rest)) (sym e) ∙ ap ended (sym (reads_token k ss t rest)) ∙ i.ends;
}
  where
    grows : (c : Trees ss) → (d : Trees (phrase m ∷ [])) × (spelling d ≡ (i.taken ++ t ∷ []) ++ spelling c) × (track d [] ≡ track c (shift t ∷ ms))
    grows c =
        let q : (d : Trees (phrase m ∷ [])) × (spelling d ≡ i.taken ++ t ∷ spelling c) × (track d [] ≡ track c (shift t ∷ ms))
        = i.grows (leaf t (same_terminal (kind_of t) k (eqb-true _ _ e)) c) in
        (q.0, q.1 ∙ sym (append_assoc i.taken (t ∷ []) (spelling c)), q.2)

rule_chosen : {m : Class} {tokens rest : List Token} {ss : List Symbol} {ms : List Move} {n : Class} (r : Rule n) → choose n (ahead rest) ≡ Some r
    → Reached m tokens rest (phrase n ∷ ss) ms → Reached m tokens rest (rhs r ++ ss) (by (any r) ∷ ms)
rule_chosen {m} {tokens} {rest} {ss} {ms} {n} r e i = record {
  taken = i.taken;
  split = i.split;
  grows = grows;
  ends = join (rhs r) ss rest ∙ inside (reads (rhs r) rest) ∙ ap (λ o. ended (by_rule ss reads o rest)) (sym e) ∙ ap ended (sym (reads_phrase n ss rest)) ∙ i.ends;
}
  where
    A : Run (Values (rhs r)) → Run (Value n × Values ss)
    A z = next z (λ ws mid. next (reads ss mid) (λ vs x. got (act r ws, vs) x))

    inside : (z : Run (Values (rhs r))) → ended (next z (λ v x. reads ss x)) ≡ ended (A z)
    inside (got ws mid) = sym (ended_map (λ vs. (act r ws, vs)) (reads ss mid))
    inside (stop x) = refl
    inside spent = refl

    grows : (c : Trees (rhs r ++ ss)) → (d : Trees (phrase m ∷ [])) × (spelling d ≡ i.taken ++ spelling c) × (track d [] ≡ track c (by (any r) ∷ ms))
    grows c =
        let s : Cut (rhs r) ss c = cut (rhs r) ss c in
        let q : (d : Trees (phrase m ∷ [])) × (spelling d ≡ i.taken ++ (spelling s.front ++ spelling s.behind)) × (track d [] ≡ track s.behind (track s.front (by (any r) ∷ ms)))
        = i.grows (node r s.front s.behind) in
        (q.0, q.1 ∙ ap (λ z. i.taken ++ z) (sym s.spelled), q.2 ∙ sym (s.tracked (by (any r) ∷ ms)))

some_same : {A : Type 0} {x y : A} → Some x ≡ Some y → x ≡ y
some_same e = cc

none_some : {A : Type 0} {x : A} → None ≡ Some x → ⊥
none_some e = cc

-- a move keeps what was reached
pub on_move : {m : Class} {tokens rest : List Token} {s : Symbol} {ss : List Symbol} {ms : List Move} {p : Move × List Token}
    → advance s rest ≡ Some p → Reached m tokens rest (s ∷ ss) ms → Reached m tokens p.1 (pushed p.0 ++ ss) (p.0 ∷ ms)
on_move {rest = []} {s = token k} e i = absurd (none_some e)
on_move {m} {tokens} {rest = t ∷ rest} {s = token k} {ss} {ms} {p} e i = go (eqb (number_of (kind_of t)) (number_of k)) refl e
  where
    go : (b : Bool) → eqb (number_of (kind_of t)) (number_of k) ≡ b → by_number b t rest ≡ Some p → Reached m tokens p.1 (pushed p.0 ++ ss) (p.0 ∷ ms)
    go true h q = subst (λ z. Reached m tokens z.1 (pushed z.0 ++ ss) (z.0 ∷ ms)) (some_same q) (token_taken k t h i)
    go false h q = absurd (none_some q)
on_move {m} {tokens} {rest} {s = phrase n} {ss} {ms} {p} e i = go (choose n (ahead rest)) refl e
  where
    go : (o : Option (Rule n)) → choose n (ahead rest) ≡ o → any_move rest (option_map any o) ≡ Some p → Reached m tokens p.1 (pushed p.0 ++ ss) (p.0 ∷ ms)
    go None h q = absurd (none_some q)
    go (Some r) h q = subst (λ z. Reached m tokens z.1 (pushed z.0 ++ ss) (z.0 ∷ ms)) (some_same q) (rule_chosen r h i)

lead_front : (xs ys : List Symbol) → all_empty xs ≡ false → lead (xs ++ ys) ≡ lead xs
lead_front [] ys e = absurd (cc)
lead_front (token k ∷ xs) ys e = refl
lead_front (phrase n ∷ xs) ys e = go (can_be_empty n) e (λ q. lead_front xs ys q)
  where
    go : (b : Bool) → b && all_empty xs ≡ false → (all_empty xs ≡ false → lead (xs ++ ys) ≡ lead xs)
        → cond b (max (suc (rank n)) (lead (xs ++ ys))) (suc (rank n)) ≡ cond b (max (suc (rank n)) (lead xs)) (suc (rank n))
    go true q ih = ap (λ z. max (suc (rank n)) z) (ih q)
    go false q ih = refl

rule_smaller : {n : Class} (r : Rule n) (ss : List Symbol) (k : ℕ) → need (rhs r ++ ss) k < need (phrase n ∷ ss) k
unfolding need
rule_smaller {n} r ss k = go (all_empty (rhs r)) refl (empties r)
  where
    go : (b : Bool) → all_empty (rhs r) ≡ b → not b || eqb (length (rhs r)) 0 ≡ true
        → 100 * k + 12 * lead (rhs r ++ ss) + length (rhs r ++ ss) + 1 < 100 * k + 12 * lead (phrase n ∷ ss) + length (phrase n ∷ ss) + 1
    go true e h = short (rhs r) (eqb-true _ _ h)
      where
        short : (xs : List Symbol) → length xs ≡ 0 → 100 * k + 12 * lead (xs ++ ss) + length (xs ++ ss) + 1 < 100 * k + 12 * lead (phrase n ∷ ss) + length (phrase n ∷ ss) + 1
        short [] q = omega (arith, lead_rest n ss (empty_rule r e))
        short (a ∷ xs) q = absurd (omega (arith, q))
    go false e h = omega (arith, lead_front (rhs r) ss e, lead_rule r, length_rule r, lead_above n ss, length-append (rhs r) ss)

-- a move makes what is left to do smaller
pub move_smaller : (rest : List Token) (s : Symbol) (ss : List Symbol) (p : Move × List Token) → advance s rest ≡ Some p → need (pushed p.0 ++ ss) (length p.1) < need (s ∷ ss) (length rest)
move_smaller [] (token k) ss p e = absurd (none_some e)
move_smaller (t ∷ rest) (token k) ss p e = go (eqb (number_of (kind_of t)) (number_of k)) e
  where
    go : (b : Bool) → by_number b t rest ≡ Some p → need (pushed p.0 ++ ss) (length p.1) < need (token k ∷ ss) (length (t ∷ rest))
    go true q = subst (λ z. need (pushed z.0 ++ ss) (length z.1) < need (token k ∷ ss) (length (t ∷ rest))) (some_same q) (token_behind k ss (length rest))
    go false q = absurd (none_some q)
move_smaller rest (phrase n) ss p e = go (choose n (ahead rest)) e
  where
    go : (o : Option (Rule n)) → any_move rest (option_map any o) ≡ Some p → need (pushed p.0 ++ ss) (length p.1) < need (phrase n ∷ ss) (length rest)
    go None q = absurd (none_some q)
    go (Some r) q = subst (λ z. need (pushed z.0 ++ ss) (length z.1) < need (phrase n ∷ ss) (length rest)) (some_same q) (rule_smaller r ss (length rest))

halted_stop : {A : Type 0} (z : Run A) (x : List Token) → ended z ≡ halted x → z ≡ stop x
halted_stop (got a y) x e = absurd (cc)
halted_stop {A} (stop y) x e = let q : y ≡ x = cc in ap (λ w. stop w) q
halted_stop spent x e = absurd (cc)

over_got : {A : Type 0} (z : Run A) (x : List Token) → ended z ≡ over x → (a : A) × (z ≡ got a x)
over_got (got a y) x e = let q : y ≡ x = cc in (a, ap (λ w. got a w) q)
over_got (stop y) x e = absurd (cc)
over_got spent x e = absurd (cc)

wrong : {m : Class} (tokens rest : List Token) → (at : ℕ) × (at + length rest ≡ length tokens) × Farthest m tokens at × ((p : Value m) → Phrase m tokens p → ⊥) → WrongAt m tokens (length tokens - length rest)
wrong {m} tokens rest q =
    let e : q.0 ≡ length tokens - length rest = omega (arith, q.1) in
    record { farthest = subst (λ z. Farthest m tokens z) e q.2; none = q.3 }

stops_there : {m : Class} {tokens rest : List Token} → Start m → ended (reads (phrase m ∷ []) tokens) ≡ halted rest → WrongAt m tokens (length tokens - length rest)
unfolding reads
stops_there {m} {tokens} {rest} st e =
    wrong tokens rest (stop_is_farthest (need (phrase m ∷ []) (length tokens)) tokens rest st (halted_stop (reads (phrase m ∷ []) tokens) rest e))

-- where no move can be made the tokens are no phrase of the class
pub on_stop : {m : Class} {tokens rest : List Token} {s : Symbol} {ss : List Symbol} {ms : List Move} → Start m → advance s rest ≡ None → Reached m tokens rest (s ∷ ss) ms → WrongAt m tokens (length tokens - length rest)
on_stop {rest = []} {s = token k} {ss} st e i = stops_there {rest = []} st (sym i.ends ∙ ap ended (reads_no_token k ss))
on_stop {m} {tokens} {rest = t ∷ rest} {s = token k} {ss} st e i = go (eqb (number_of (kind_of t)) (number_of k)) refl e
  where
    go : (b : Bool) → eqb (number_of (kind_of t)) (number_of k) ≡ b → by_number b t rest ≡ None → WrongAt m tokens (length tokens - length (t ∷ rest))
    go true h q = absurd (none_some (sym q))
    go false h q = stops_there {rest = t ∷ rest} st (sym i.ends ∙ ap ended (reads_token k ss t rest) ∙ ap (λ b. ended (by_token b (reads ss rest) t rest)) h)
on_stop {m} {tokens} {rest} {s = phrase n} {ss} st e i = go (choose n (ahead rest)) refl e
  where
    go : (o : Option (Rule n)) → choose n (ahead rest) ≡ o → any_move rest (option_map any o) ≡ None → WrongAt m tokens (length tokens - length rest)
    go None h q = stops_there {rest = rest} st (sym i.ends ∙ ap ended (reads_phrase n ss rest) ∙ ap (λ o. ended (by_rule ss reads o rest)) h)
    go (Some r) h q = absurd (none_some (sym q))

-- where nothing more is wanted the tokens taken are a phrase of the class
pub on_end : {m : Class} {tokens : List Token} {ms : List Move} → Reached m tokens [] [] ms → (d : Trees (phrase m ∷ [])) × (spelling d ≡ tokens) × (track d [] ≡ ms)
on_end i = let q = i.grows end in (q.0, q.1 ∙ i.split, q.2)

left_over : {m : Class} {tokens rest : List Token} {t : Token} → Start m → (vs : Values (phrase m ∷ [])) × (reads (phrase m ∷ []) tokens ≡ got vs (t ∷ rest)) → WrongAt m tokens (length tokens - length (t ∷ rest))
unfolding reads
left_over {m} {tokens} {rest} {t} st q = wrong tokens (t ∷ rest) (rest_is_farthest (need (phrase m ∷ []) (length tokens)) tokens q.0 t rest st q.1)

-- where no symbols are wanted and tokens are left, the text goes wrong at the first of these
pub on_rest : {m : Class} {tokens rest : List Token} {ms : List Move} → Start m → 0 < length rest → Reached m tokens rest [] ms → WrongAt m tokens (length tokens - length rest)
on_rest {rest = []} st h i = absurd (omega (arith, h))
on_rest {m} {tokens} {rest = t ∷ rest} st h i = left_over st (over_got (reads (phrase m ∷ []) tokens) (t ∷ rest) (sym i.ends ∙ ap ended (reads_none (t ∷ rest))))
