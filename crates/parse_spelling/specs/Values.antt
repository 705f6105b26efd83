-- What phrases give, where all names, numbers and texts in it have a spelling in a version of the text of System Fω, and sums
-- and recursive types stand in the second version only.
use Rattle.std.specs.Prelude.{◌≡◌, List, [], ◌∷◌, true, Option, Some, None}
use Rattle.fing_lexer.specs.declared.token.What.{What}
use Rattle.fing_syntax.specs.Phrase.{Mod, TyEx}
use Rattle.fing_syntax.specs.Units.{UnitTree, UnitAt}
use Rattle.parse_grammar.specs.Grammar
use Rattle.parse_grammar.specs.Grammar.{Terminal, a_keyword, a_mark, a_name, a_number, a_text, Class, Symbol, token, phrase}
use Rattle.parse_grammar.specs.Parts.{bytes_in, number_in, TypeTail, Open, Is, Has, Where, Ascription, Sealed, Shown, Abstraction, OfValue, OfType}
use Rattle.parse_grammar.specs.Meaning.{Value, Values}
use Rattle.omega_terms.specs.declared.version.Version.{Version}
use Rattle.omega_spelling.specs.TermReading.{SignedFits, all_spelled}
use Rattle.elab_spelling.specs.Signatures.{NameSpelled}
use Rattle.elab_spelling.specs.Phrases.{LeafSpelled, LeavesSpelled, ModSpelled, BindSpelled, BindsSpelled, SigExSpelled, DeclSpelled, DeclsSpelled, TyExSpelled}
use Rattle.elab_spelling.specs.Phrases.{TyExsSpelled, FieldTyExsSpelled, ExpSpelled, OpExpsSpelled, ArgsSpelled, FieldExpsSpelled, BranchesSpelled}
use Rattle.parse_spelling.specs.Tokens.{WordSpelled}

abbrev pub UnitSpelled : Version → UnitTree → Type 0
UnitSpelled v (UnitAt at x s m) = LeafSpelled x × SigExSpelled v s × ModSpelled v m

abbrev pub UnitsSpelled : Version → List UnitTree → Type 0
UnitsSpelled v [] = Unit {0}
UnitsSpelled v (u ∷ us) = UnitSpelled v u × UnitsSpelled v us

abbrev pub TailSpelled : Version → TypeTail → Type 0
TailSpelled v Open = Unit {0}
TailSpelled v (Is t) = TyExSpelled v t
TailSpelled v (Has k) = Unit {0}

abbrev pub SomeTypeSpelled : Version → Option TyEx → Type 0
SomeTypeSpelled v None = Unit {0}
SomeTypeSpelled v (Some t) = TyExSpelled v t

abbrev pub WheresSpelled : Version → List Where → Type 0
WheresSpelled v [] = Unit {0}
WheresSpelled v (w ∷ ws) = (LeavesSpelled (w.first ∷ w.rest) × TyExSpelled v w.ty) × WheresSpelled v ws

abbrev pub ModsSpelled : Version → List Mod → Type 0
ModsSpelled v [] = Unit {0}
ModsSpelled v (m ∷ ms) = ModSpelled v m × ModsSpelled v ms

abbrev pub AscriptionSpelled : Version → Ascription → Type 0
AscriptionSpelled v (Sealed s) = SigExSpelled v s
AscriptionSpelled v (Shown s) = SigExSpelled v s

abbrev pub AscriptionsSpelled : Version → List Ascription → Type 0
AscriptionsSpelled v [] = Unit {0}
AscriptionsSpelled v (a ∷ rest) = AscriptionSpelled v a × AscriptionsSpelled v rest

abbrev pub AbstractionSpelled : Version → Abstraction → Type 0
AbstractionSpelled v (OfValue x t e) = LeafSpelled x × TyExSpelled v t × ExpSpelled v e
AbstractionSpelled v (OfType x k e) = LeafSpelled x × ExpSpelled v e

-- what a phrase of each class gives
abbrev pub ValueSpelled : Version → (n : Class) → Value n → Type 0
ValueSpelled v Grammar.Units x = UnitsSpelled v x
ValueSpelled v Grammar.OneUnit x = UnitSpelled v x
ValueSpelled v Grammar.Binds x = BindsSpelled v x
ValueSpelled v Grammar.Bind x = BindSpelled v x
ValueSpelled v Grammar.Decls x = DeclsSpelled v x
ValueSpelled v Grammar.Decl x = DeclSpelled v x
ValueSpelled v Grammar.TypeOf x = TailSpelled v x
ValueSpelled v Grammar.K x = Unit {0}
ValueSpelled v Grammar.KArrow x = Unit {0}
ValueSpelled v Grammar.KA x = Unit {0}
ValueSpelled v Grammar.P x = ModSpelled v x
ValueSpelled v Grammar.Dots x = LeavesSpelled x
ValueSpelled v Grammar.T x = TyExSpelled v x
ValueSpelled v Grammar.TArrow x = SomeTypeSpelled v x
ValueSpelled v Grammar.TC x = TyExSpelled v x
ValueSpelled v Grammar.TArgs x = TyExsSpelled v x
ValueSpelled v Grammar.TA x = TyExSpelled v x
ValueSpelled v Grammar.TFields x = FieldTyExsSpelled v x
ValueSpelled v Grammar.MoreTFields x = FieldTyExsSpelled v x
ValueSpelled v Grammar.S x = SigExSpelled v x
ValueSpelled v Grammar.SArrow x = Unit {0}
ValueSpelled v Grammar.Wheres x = WheresSpelled v x
ValueSpelled v Grammar.SA x = SigExSpelled v x
ValueSpelled v Grammar.M x = ModSpelled v x
ValueSpelled v Grammar.MArgs x = ModsSpelled v x
ValueSpelled v Grammar.Seals x = AscriptionsSpelled v x
ValueSpelled v Grammar.MA x = ModSpelled v x
ValueSpelled v Grammar.E x = ExpSpelled v x
ValueSpelled v Grammar.Lam x = AbstractionSpelled v x
ValueSpelled v Grammar.EBranches x = BranchesSpelled v x
ValueSpelled v Grammar.MoreEBranches x = BranchesSpelled v x
ValueSpelled v Grammar.Compare x = OpExpsSpelled v x
ValueSpelled v Grammar.ES x = ExpSpelled v x
ValueSpelled v Grammar.Sums x = OpExpsSpelled v x
ValueSpelled v Grammar.EM x = ExpSpelled v x
ValueSpelled v Grammar.Products x = OpExpsSpelled v x
ValueSpelled v Grammar.EP x = ExpSpelled v x
ValueSpelled v Grammar.Args x = ArgsSpelled v x
ValueSpelled v Grammar.EA x = ExpSpelled v x
ValueSpelled v Grammar.Gets x = LeavesSpelled x
ValueSpelled v Grammar.EB x = ExpSpelled v x
ValueSpelled v Grammar.EFields x = FieldExpsSpelled v x
ValueSpelled v Grammar.MoreEFields x = FieldExpsSpelled v x

-- a token where one of this kind stands, a keyword in a version that has its phrases
abbrev pub LeafAt : Version → Terminal → What → Type 0
LeafAt v (a_keyword w) t = WordSpelled v w
LeafAt v (a_mark m) t = Unit {0}
LeafAt v a_name t = NameSpelled (bytes_in t)
LeafAt v a_number t = SignedFits (number_in t)
LeafAt v a_text t = all_spelled (bytes_in t) ≡ true

-- what the parts of a production give
abbrev pub ValuesSpelled : Version → (ss : List Symbol) → Values ss → Type 0
ValuesSpelled v [] vs = Unit {0}
ValuesSpelled v (token k ∷ ss) vs = LeafAt v k vs.0.what × ValuesSpelled v ss vs.1
ValuesSpelled v (phrase n ∷ ss) vs = ValueSpelled v n vs.0 × ValuesSpelled v ss vs.1
