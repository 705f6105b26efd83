-- The code's choice of a production gives the move.
-- Main results: choice_moves.
use Rattle.std.proofs.Common.{◌≡◌, ℕ, List, refl, ◌∙◌, ap}
use Rattle.std.specs.Prelude.{Option, option_map}
use Rattle.fing_lexer.specs.declared.token.Token.{Token}
use Rattle.parse_grammar.specs.Inner.Moves.{any_move}
use Rattle.parse_grammar.specs.Tables.{choose}
use Rattle.parse_grammar.specs.Inner.View.{class_in, rule_in, any, chosen}
use Rattle.parse_grammar.specs.declared.grammar.Rule.{Rule as RuleIn}
use Rattle.parse_grammar.specs.declared.grammar.Class.{Class as ClassIn}
use Rattle.parse_grammar.specs.declared.grammar.Class.TheVariants.{Units, OneUnit, Binds, Bind, Decls, Decl, TypeOf, Kind, KindArrow, KindAtom, Path, Dots, Ty, TyArrow, TyChain, TyArgs, TyAtom, TyFields, MoreTyFields, Sig, SigArrow, Wheres, SigAtom, Mod, ModArgs, Seals, ModAtom, Exp, Lam, Branches, MoreBranches, Compare, Sum, Sums, Product, Products, Application, Args, Selection, Gets, ExpAtom, ExpFields, MoreExpFields}

chosen_is : (c : ClassIn) (j : ℕ) → chosen c j ≡ option_map any (choose (class_in c) j)
chosen_is Units j = refl
chosen_is OneUnit j = refl
chosen_is Binds j = refl
chosen_is Bind j = refl
chosen_is Decls j = refl
chosen_is Decl j = refl
chosen_is TypeOf j = refl
chosen_is Kind j = refl
chosen_is KindArrow j = refl
chosen_is KindAtom j = refl
chosen_is Path j = refl
chosen_is Dots j = refl
chosen_is Ty j = refl
chosen_is TyArrow j = refl
chosen_is TyChain j = refl
chosen_is TyArgs j = refl
chosen_is TyAtom j = refl
chosen_is TyFields j = refl
chosen_is MoreTyFields j = refl
chosen_is Sig j = refl
chosen_is SigArrow j = refl
chosen_is Wheres j = refl
chosen_is SigAtom j = refl
chosen_is Mod j = refl
chosen_is ModArgs j = refl
chosen_is Seals j = refl
chosen_is ModAtom j = refl
chosen_is Exp j = refl
chosen_is Lam j = refl
chosen_is Branches j = refl
chosen_is MoreBranches j = refl
chosen_is Compare j = refl
chosen_is Sum j = refl
chosen_is Sums j = refl
chosen_is Product j = refl
chosen_is Products j = refl
chosen_is Application j = refl
chosen_is Args j = refl
chosen_is Selection j = refl
chosen_is Gets j = refl
chosen_is ExpAtom j = refl
chosen_is ExpFields j = refl
chosen_is MoreExpFields j = refl

-- the code's choice of a production for a class and a token is the move of the definitions
pub choice_moves : (c : ClassIn) (j k : ℕ) (ts : List Token) (o : Option RuleIn) → j ≡ k → option_map rule_in o ≡ chosen c j
    → any_move ts (option_map rule_in o) ≡ any_move ts (option_map any (choose (class_in c) k))
choice_moves c j k ts o p q = ap (λ z. any_move ts z) (q ∙ chosen_is c j ∙ ap (λ i. option_map any (choose (class_in c) i)) p)
