-- A tree of tokens that have a spelling has names, numbers and texts that have one.
-- Main results: phrase-spelled.
use Rattle.std.specs.Prelude.{List, [], ◌∷◌, ◌++◌, Option, Some, None, codes}
use Rattle.std.proofs.Math.Path.{refl, sym, subst}
use Rattle.fing_lexer.specs.declared.token.What.{What}
use Rattle.fing_lexer.specs.declared.token.What.TheVariants as what
use Rattle.fing_lexer.specs.declared.token.Token.{Token}
use Rattle.fing_syntax.specs.Phrase as tree
use Rattle.fing_syntax.specs.Phrase.{Span, SpanName, Mod, SigEx, TyEx, TyExs, Exp, OpExps, ModAt, ModName, ModProject, ModFunctor, SigAt, TyAt, ExpAt, ExpGet}
use Rattle.fing_syntax.specs.Phrase.{NoBinds, MoreBinds, NoTys, MoreTys, NoOps, MoreOps, NoArgs, MoreArgs}
use Rattle.fing_syntax.specs.Place.{name_span, mod_span, sig_span, exp_span, up_to}
use Rattle.parse_grammar.specs.Grammar.{terminal_of, Class, Symbol, Rule, rhs, no_units, more_units, unit_module, no_binds, more_binds, bind_val, bind_type}
use Rattle.parse_grammar.specs.Grammar.{bind_data, bind_module, bind_signature, bind_include, no_decls, more_decls, decl_val, decl_type, decl_data, decl_module}
use Rattle.parse_grammar.specs.Grammar.{decl_signature, decl_include, type_of_nothing, type_is, type_has, kind_chain, no_kind_arrow, kind_arrow}
use Rattle.parse_grammar.specs.Grammar.{kind_type, kind_paren}
use Rattle.parse_grammar.specs.Grammar.{path_name, path_from, no_dots, more_dots, ty_lam, ty_all, ty_chain, no_arrow, ty_arrow, ty_args, no_ty_args}
use Rattle.parse_grammar.specs.Grammar.{more_ty_args, ty_int, ty_bool, ty_text, ty_path, ty_fields, ty_sum, ty_pack, ty_paren, no_ty_fields, ty_field}
use Rattle.parse_grammar.specs.Grammar.{last_ty_field, next_ty_field, sig_fun, sig_where, generative, applicative, no_wheres, more_wheres}
use Rattle.parse_grammar.specs.Grammar.{sig_path, sig_decls, sig_paren}
use Rattle.parse_grammar.specs.Grammar.{mod_fun, mod_gen, mod_unpack, mod_chain, no_mod_args, more_mod_args, no_seals, seal, ascribe, mod_path, mod_struct}
use Rattle.parse_grammar.specs.Grammar.{mod_let, mod_paren, exp_fun, exp_fix, exp_if, exp_case, no_branches, case_branch, last_branch, next_branch}
use Rattle.parse_grammar.specs.Grammar.{exp_compare, lam_value, lam_type, no_compare, less_than, equal_to, sums}
use Rattle.parse_grammar.specs.Grammar.{no_sums, add, subtract, products, no_products, multiply, divide, remainder, exp_args, no_args, exp_arg, ty_arg}
use Rattle.parse_grammar.specs.Grammar.{exp_gets, no_gets, more_gets, exp_number, exp_text, exp_true, exp_false, exp_path, exp_fields, exp_inj, exp_roll}
use Rattle.parse_grammar.specs.Grammar.{exp_unroll, exp_let, exp_pack}
use Rattle.parse_grammar.specs.Grammar.{exp_paren, no_exp_fields, exp_field, last_exp_field, next_exp_field}
use Rattle.parse_grammar.specs.Parts.{at, named, TypeTail, Open, Is, Has, Where, Ascription, Sealed, Shown, Abstraction, OfValue, OfType}
use Rattle.parse_grammar.specs.Forms.{mod_at, sig_at, ty_at, exp_at, bind_then, hidden_module, hidden_val, let_mod, let_exp, of_three, apply_mod, pack_exp}
use Rattle.parse_grammar.specs.Forms.{project_all, get_all, apply_all, ascribe as ascribed, ascribe_all, refine, refine_all, ty_chain_of, ops_of, args_of}
use Rattle.parse_grammar.specs.Forms.{arrow_of, decl_type_of, abstraction_of}
use Rattle.parse_grammar.specs.Meaning.{Value, Values, act}
use Rattle.parse_grammar.specs.Tree.{Trees, end, leaf, node, spelling, values, Phrase}
use Rattle.omega_terms.specs.declared.version.Version.{Version}
use Rattle.elab_spelling.specs.Phrases.{LeafSpelled, LeavesSpelled, ModSpelled, BindSpelled, BindsSpelled, SigExSpelled, DeclSpelled, TyExSpelled, TyExsSpelled}
use Rattle.elab_spelling.specs.Phrases.{ExpSpelled, OpExpsSpelled, ArgsSpelled}
use Rattle.parse_spelling.specs.Tokens.{WhatSpelled, TokensSpelled, KeywordSpelled, KeywordsSpelled}
use Rattle.parse_spelling.specs.Values.{TailSpelled, SomeTypeSpelled, WheresSpelled, ModsSpelled, AscriptionSpelled, AscriptionsSpelled, AbstractionSpelled}
use Rattle.parse_spelling.specs.Values.{ValueSpelled, LeafAt, ValuesSpelled}

module _ (v : Version) where
  -- the same phrase at another place

  mod_at-spelled : (s : Span) (m : Mod) → ModSpelled v m → ModSpelled v (mod_at s m)
  mod_at-spelled s (ModAt z w) h = h

  sig_at-spelled : (s : Span) (g : SigEx) → SigExSpelled v g → SigExSpelled v (sig_at s g)
  sig_at-spelled s (SigAt z w) h = h

  ty_at-spelled : (s : Span) (t : TyEx) → TyExSpelled v t → TyExSpelled v (ty_at s t)
  ty_at-spelled s (TyAt z w) h = h

  exp_at-spelled : (s : Span) (e : Exp) → ExpSpelled v e → ExpSpelled v (exp_at s e)
  exp_at-spelled s (ExpAt z w) h = h

  -- derived forms, whose hidden names have a spelling

  bind_then-spelled : (bs : tree.Binds) (b : tree.Bind) → BindsSpelled v bs → BindSpelled v b → BindsSpelled v (bind_then bs b)
  bind_then-spelled NoBinds b h g = (g, tt)
  bind_then-spelled (MoreBinds a r) b h g = (h.0, bind_then-spelled r b h.1 g)

  let_mod-spelled : (s : Span) (bs : tree.Binds) (m : Mod) → BindsSpelled v bs → ModSpelled v m → ModSpelled v (let_mod s bs m)
  let_mod-spelled s bs m h g = (bind_then-spelled bs (hidden_module s (codes "%0") m) h (refl, g), refl)

  let_exp-spelled : (s : Span) (bs : tree.Binds) (e : Exp) → BindsSpelled v bs → ExpSpelled v e → ExpSpelled v (let_exp s bs e)
  let_exp-spelled s bs e h g = (bind_then-spelled bs (hidden_val s e) h (refl, g), refl)

  of_three-spelled : (s : Span) (m1 m2 m : Mod) → ModSpelled v m1 → ModSpelled v m2 → ModSpelled v m → ModSpelled v (of_three s m1 m2 m)
  of_three-spelled s m1 m2 m h g f = (((refl, h), ((refl, g), ((refl, f), tt))), refl)

  apply_mod-spelled : (f m : Mod) → ModSpelled v f → ModSpelled v m → ModSpelled v (apply_mod f m)
  apply_mod-spelled f m h g = (((refl, h), ((refl, g), ((refl, (refl, refl)), tt))), refl)

  ascribe-spelled : (m : Mod) (a : Ascription) → ModSpelled v m → AscriptionSpelled v a → ModSpelled v (ascribed m a)
  ascribe-spelled m (Sealed g) h f = (((refl, h), ((refl, (refl, f)), tt)), refl)
  ascribe-spelled m (Shown g) h f = (((refl, h), ((refl, (refl, f, refl)), ((refl, (refl, refl)), tt))), refl)

  pack_exp-spelled : (s : Span) (m : Mod) (g : SigEx) → ModSpelled v m → SigExSpelled v g → ExpSpelled v (pack_exp s m g)
  pack_exp-spelled s m g h f = (((refl, h), ((refl, (refl, f)), tt)), refl)

  -- chains

  project_all-spelled : (m : Mod) (xs : List SpanName) → ModSpelled v m → LeavesSpelled xs → ModSpelled v (project_all m xs)
  project_all-spelled m [] h g = h
  project_all-spelled m (x ∷ xs) h g = project_all-spelled (ModAt (up_to (mod_span m) (name_span x)) (ModProject m x)) xs (h, g.0) g.1

  get_all-spelled : (e : Exp) (xs : List SpanName) → ExpSpelled v e → LeavesSpelled xs → ExpSpelled v (get_all e xs)
  get_all-spelled e [] h g = h
  get_all-spelled e (x ∷ xs) h g = get_all-spelled (ExpAt (up_to (exp_span e) (name_span x)) (ExpGet e x)) xs (h, g.0) g.1

  apply_all-spelled : (f : Mod) (ms : List Mod) → ModSpelled v f → ModsSpelled v ms → ModSpelled v (apply_all f ms)
  apply_all-spelled f [] h g = h
  apply_all-spelled f (m ∷ ms) h g = apply_all-spelled (apply_mod f m) ms (apply_mod-spelled f m h g.0) g.1

  ascribe_all-spelled : (m : Mod) (rest : List Ascription) → ModSpelled v m → AscriptionsSpelled v rest → ModSpelled v (ascribe_all m rest)
  ascribe_all-spelled m [] h g = h
  ascribe_all-spelled m (a ∷ rest) h g = ascribe_all-spelled (ascribed m a) rest (ascribe-spelled m a h g.0) g.1

  refine_all-spelled : (s : SigEx) (ws : List Where) → SigExSpelled v s → WheresSpelled v ws → SigExSpelled v (refine_all s ws)
  refine_all-spelled s [] h g = h
  refine_all-spelled s (w ∷ ws) h g = refine_all-spelled (refine s w) ws (h, g.0.0, g.0.1) g.1

  ty_chain_of-spelled : (t : TyEx) (ts : TyExs) → TyExSpelled v t → TyExsSpelled v ts → TyExSpelled v (ty_chain_of t ts)
  ty_chain_of-spelled t NoTys h g = h
  ty_chain_of-spelled t (MoreTys u r) h g = (h, g)

  ops_of-spelled : (e : Exp) (r : OpExps) → ExpSpelled v e → OpExpsSpelled v r → ExpSpelled v (ops_of e r)
  ops_of-spelled e NoOps h g = h
  ops_of-spelled e (MoreOps o f r) h g = (h, g)

  args_of-spelled : (e : Exp) (r : tree.Args) → ExpSpelled v e → ArgsSpelled v r → ExpSpelled v (args_of e r)
  args_of-spelled e NoArgs h g = h
  args_of-spelled e (MoreArgs a r) h g = (h, g)

  arrow_of-spelled : (t : TyEx) (u : Option TyEx) → TyExSpelled v t → SomeTypeSpelled v u → TyExSpelled v (arrow_of t u)
  arrow_of-spelled t None h g = h
  arrow_of-spelled t (Some u) h g = (h, g)

  decl_type_of-spelled : (w x : Token) (o : TypeTail) → LeafSpelled (named x) → TailSpelled v o → DeclSpelled v (decl_type_of w x o)
  decl_type_of-spelled w x Open h g = h
  decl_type_of-spelled w x (Is t) h g = (h, g)
  decl_type_of-spelled w x (Has k) h g = h

  abstraction_of-spelled : (w : Token) (l : Abstraction) → AbstractionSpelled v l → ExpSpelled v (abstraction_of w l)
  abstraction_of-spelled w (OfValue x t e) h = h
  abstraction_of-spelled w (OfType x k e) h = h

  -- productions

  act-spelled : {n : Class} (r : Rule n) (vs : Values (rhs r)) → ValuesSpelled v (rhs r) vs → ValueSpelled v n (act r vs)
  act-spelled no_units _ h = tt
  act-spelled more_units (u, (us, _)) h = (h.0, h.1.0)
  act-spelled unit_module (w, (x, (_, (g, (_, (s, (bs, (z, _)))))))) h = (h.1.0, h.1.1.1.0, h.1.1.1.1.1.1.0)
  act-spelled no_binds _ h = tt
  act-spelled more_binds (b, (bs, _)) h = (h.0, h.1.0)
  act-spelled bind_val (w, (x, (_, (e, _)))) h = (h.1.0, h.1.1.1.0)
  act-spelled bind_type (w, (x, (_, (t, _)))) h = (h.1.0, h.1.1.1.0)
  act-spelled bind_data (w, (x, (_, (t, _)))) h = (h.1.0, (h.0, h.1.0, h.1.1.1.0))
  act-spelled bind_module (w, (x, (_, (m, _)))) h = (h.1.0, h.1.1.1.0)
  act-spelled bind_signature (w, (x, (_, (g, _)))) h = (h.1.0, h.1.1.1.0)
  act-spelled bind_include (w, (m, _)) h = h.1.0
  act-spelled no_decls _ h = tt
  act-spelled more_decls (d, (ds, _)) h = (h.0, h.1.0)
  act-spelled decl_val (w, (x, (_, (t, _)))) h = (h.1.0, h.1.1.1.0)
  act-spelled decl_type (w, (x, (o, _))) h = decl_type_of-spelled w x o h.1.0 h.1.1.0
  act-spelled decl_data (w, (x, (_, (t, _)))) h = (h.1.0, (h.0, h.1.0, h.1.1.1.0))
  act-spelled decl_module (w, (x, (_, (g, _)))) h = (h.1.0, h.1.1.1.0)
  act-spelled decl_signature (w, (x, (_, (g, _)))) h = (h.1.0, h.1.1.1.0)
  act-spelled decl_include (w, (g, _)) h = h.1.0
  act-spelled type_of_nothing _ h = tt
  act-spelled type_is (_, (t, _)) h = h.1.0
  act-spelled type_has (_, (k, _)) h = tt
  act-spelled kind_chain (k, (j, _)) h = tt
  act-spelled no_kind_arrow _ h = tt
  act-spelled kind_arrow (_, (k, _)) h = tt
  act-spelled kind_type (w, _) h = tt
  act-spelled kind_paren (_, (k, (z, _))) h = tt
  act-spelled path_name (x, (xs, _)) h = project_all-spelled (ModAt (at x) (ModName (named x))) xs h.0 h.1.0
  act-spelled path_from (w, (_, (m, (_, (_, (x, (xs, _))))))) h = project_all-spelled (ModAt (up_to (at w) (at x)) (ModProject m (named x))) xs
      (h.1.1.0, h.1.1.1.1.1.0) h.1.1.1.1.1.1.0
  act-spelled no_dots _ h = tt
  act-spelled more_dots (_, (x, (xs, _))) h = (h.1.0, h.1.1.0)
  act-spelled ty_lam (w, (_, (x, (_, (k, (_, (_, (t, _)))))))) h = (h.1.1.0, h.1.1.1.1.1.1.1.0)
  act-spelled ty_all (w, (x, (_, (k, (_, (_, (t, _))))))) h = (h.1.0, h.1.1.1.1.1.1.0)
  act-spelled ty_chain (t, (u, _)) h = arrow_of-spelled t u h.0 h.1.0
  act-spelled no_arrow _ h = tt
  act-spelled ty_arrow (_, (t, _)) h = h.1.0
  act-spelled ty_args (t, (ts, _)) h = ty_chain_of-spelled t ts h.0 h.1.0
  act-spelled no_ty_args _ h = tt
  act-spelled more_ty_args (t, (ts, _)) h = (h.0, h.1.0)
  act-spelled ty_int (w, _) h = tt
  act-spelled ty_bool (w, _) h = tt
  act-spelled ty_text (w, _) h = tt
  act-spelled ty_path (m, _) h = h.0
  act-spelled ty_fields (w, (fs, (z, _))) h = h.1.0
  act-spelled ty_sum (w, (_, (fs, (z, _)))) h = (h.0, h.1.1.0)
  act-spelled ty_pack (w, (g, _)) h = h.1.0
  act-spelled ty_paren (w, (t, (z, _))) h = ty_at-spelled (up_to (at w) (at z)) t h.1.0
  act-spelled no_ty_fields _ h = tt
  act-spelled ty_field (x, (_, (t, (fs, _)))) h = (h.0, h.1.1.0, h.1.1.1.0)
  act-spelled last_ty_field _ h = tt
  act-spelled next_ty_field (_, (x, (_, (t, (fs, _))))) h = (h.1.0, h.1.1.1.0, h.1.1.1.1.0)
  act-spelled sig_fun (w, (_, (x, (_, (g, (_, (p, (y, _)))))))) h = (h.1.1.0, h.1.1.1.1.0, h.1.1.1.1.1.1.1.0)
  act-spelled sig_where (g, (ws, _)) h = refine_all-spelled g ws h.0 h.1.0
  act-spelled generative _ h = tt
  act-spelled applicative _ h = tt
  act-spelled no_wheres _ h = tt
  act-spelled more_wheres (_, (_, (x, (xs, (_, (t, (ws, _))))))) h = (((h.1.1.0, h.1.1.1.0), h.1.1.1.1.1.0), h.1.1.1.1.1.1.0)
  act-spelled sig_path (m, _) h = h.0
  act-spelled sig_decls (w, (ds, (z, _))) h = h.1.0
  act-spelled sig_paren (w, (g, (z, _))) h = sig_at-spelled (up_to (at w) (at z)) g h.1.0
  act-spelled mod_fun (w, (_, (x, (_, (g, (_, (_, (m, _)))))))) h = (h.1.1.0, h.1.1.1.1.0, h.1.1.1.1.1.1.1.0)
  act-spelled mod_gen (w, (_, (x, (_, (g, (_, (_, (m, _)))))))) h = (h.1.1.0, h.1.1.1.1.0, h.1.1.1.1.1.1.1.0)
  act-spelled mod_unpack (w, (e, (_, (g, _)))) h = (h.1.0, h.1.1.1.0)
  act-spelled mod_chain (m, (ms, (rest, _))) h = ascribe_all-spelled (apply_all m ms) rest (apply_all-spelled m ms h.0 h.1.0) h.1.1.0
  act-spelled no_mod_args _ h = tt
  act-spelled more_mod_args (m, (ms, _)) h = (h.0, h.1.0)
  act-spelled no_seals _ h = tt
  act-spelled seal (_, (g, (rest, _))) h = (h.1.0, h.1.1.0)
  act-spelled ascribe (_, (g, (rest, _))) h = (h.1.0, h.1.1.0)
  act-spelled mod_path (m, _) h = h.0
  act-spelled mod_struct (w, (bs, (z, _))) h = h.1.0
  act-spelled mod_let (w, (bs, (_, (m, (z, _))))) h = let_mod-spelled (up_to (at w) (at z)) bs m h.1.0 h.1.1.1.0
  act-spelled mod_paren (w, (m, (z, _))) h = mod_at-spelled (up_to (at w) (at z)) m h.1.0
  act-spelled exp_fun (w, (l, _)) h = abstraction_of-spelled w l h.1.0
  act-spelled exp_fix (w, (f, (_, (x, (_, (t, (_, (_, (u, (_, (e, _))))))))))) h =
      ((h.1.0, (h.1.1.1.0, tt)), h.1.1.1.1.1.0, h.1.1.1.1.1.1.1.1.0, h.1.1.1.1.1.1.1.1.1.1.0)
  act-spelled exp_if (w, (e, (_, (f, (_, (g, _)))))) h = (h.1.0, h.1.1.1.0, h.1.1.1.1.1.0)
  act-spelled exp_case (w, (e, (_, (t, (_, (_, (bs, (z, _)))))))) h = (h.0, h.1.0, h.1.1.1.0, h.1.1.1.1.1.1.0)
  act-spelled exp_compare (e, (o, _)) h = ops_of-spelled e o h.0 h.1.0
  act-spelled lam_value (_, (x, (_, (t, (_, (_, (e, _))))))) h = (h.1.0, h.1.1.1.0, h.1.1.1.1.1.1.0)
  act-spelled lam_type (_, (x, (_, (k, (_, (_, (e, _))))))) h = (h.1.0, h.1.1.1.1.1.1.0)
  act-spelled no_branches _ h = tt
  act-spelled case_branch (l, (_, (x, (_, (_, (e, (bs, _))))))) h = (h.0, h.1.1.0, h.1.1.1.1.1.0, h.1.1.1.1.1.1.0)
  act-spelled last_branch _ h = tt
  act-spelled next_branch (_, (l, (_, (x, (_, (_, (e, (bs, _)))))))) h = (h.1.0, h.1.1.1.0, h.1.1.1.1.1.1.0, h.1.1.1.1.1.1.1.0)
  act-spelled no_compare _ h = tt
  act-spelled less_than (_, (e, _)) h = (h.1.0, tt)
  act-spelled equal_to (_, (e, _)) h = (h.1.0, tt)
  act-spelled sums (e, (r, _)) h = ops_of-spelled e r h.0 h.1.0
  act-spelled no_sums _ h = tt
  act-spelled add (_, (e, (r, _))) h = (h.1.0, h.1.1.0)
  act-spelled subtract (_, (e, (r, _))) h = (h.1.0, h.1.1.0)
  act-spelled products (e, (r, _)) h = ops_of-spelled e r h.0 h.1.0
  act-spelled no_products _ h = tt
  act-spelled multiply (_, (e, (r, _))) h = (h.1.0, h.1.1.0)
  act-spelled divide (_, (e, (r, _))) h = (h.1.0, h.1.1.0)
  act-spelled remainder (_, (e, (r, _))) h = (h.1.0, h.1.1.0)
  act-spelled exp_args (e, (r, _)) h = args_of-spelled e r h.0 h.1.0
  act-spelled no_args _ h = tt
  act-spelled exp_arg (e, (r, _)) h = (h.0, h.1.0)
  act-spelled ty_arg (w, (t, (z, (r, _)))) h = (h.1.0, h.1.1.1.0)
  act-spelled exp_gets (e, (xs, _)) h = get_all-spelled e xs h.0 h.1.0
  act-spelled no_gets _ h = tt
  act-spelled more_gets (_, (x, (xs, _))) h = (h.1.0, h.1.1.0)
  act-spelled exp_number (t, _) h = h.0
  act-spelled exp_text (t, _) h = h.0
  act-spelled exp_true (t, _) h = tt
  act-spelled exp_false (t, _) h = tt
  act-spelled exp_path (m, _) h = h.0
  act-spelled exp_fields (w, (fs, (z, _))) h = h.1.0
  act-spelled exp_inj (w, (x, (e, (_, (t, _))))) h = (h.0, h.1.0, h.1.1.0, h.1.1.1.1.0)
  act-spelled exp_roll (w, (e, (_, (t, _)))) h = (h.0, h.1.0, h.1.1.1.0)
  act-spelled exp_unroll (w, (e, _)) h = (h.0, h.1.0)
  act-spelled exp_let (w, (bs, (_, (e, (z, _))))) h = let_exp-spelled (up_to (at w) (at z)) bs e h.1.0 h.1.1.1.0
  act-spelled exp_pack (w, (m, (_, (g, _)))) h = pack_exp-spelled (up_to (at w) (sig_span g)) m g h.1.0 h.1.1.1.0
  act-spelled exp_paren (w, (e, (z, _))) h = exp_at-spelled (up_to (at w) (at z)) e h.1.0
  act-spelled no_exp_fields _ h = tt
  act-spelled exp_field (x, (_, (e, (fs, _)))) h = (h.0, h.1.1.0, h.1.1.1.0)
  act-spelled last_exp_field _ h = tt
  act-spelled next_exp_field (_, (x, (_, (e, (fs, _))))) h = (h.1.0, h.1.1.1.0, h.1.1.1.1.0)

  -- trees

  leaf-here : (w : What) → WhatSpelled w → KeywordSpelled v w → LeafAt v (terminal_of w) w
  leaf-here (what.Word w) h k = k
  leaf-here (what.Mark m) h k = tt
  leaf-here (what.Ident bytes) h k = h
  leaf-here (what.Int z) h k = h
  leaf-here (what.Text bytes) h k = h

  split : (ts us : List Token) → TokensSpelled (ts ++ us) → TokensSpelled ts × TokensSpelled us
  split [] us h = (tt, h)
  split (t ∷ ts) us h = let p = split ts us h.1 in ((h.0, p.0), p.1)

  split-keywords : (ts us : List Token) → KeywordsSpelled v (ts ++ us) → KeywordsSpelled v ts × KeywordsSpelled v us
  split-keywords [] us h = (tt, h)
  split-keywords (t ∷ ts) us h = let p = split-keywords ts us h.1 in ((h.0, p.0), p.1)

  trees-spelled : {ss : List Symbol} (ts : Trees ss) → TokensSpelled (spelling ts) → KeywordsSpelled v (spelling ts) → ValuesSpelled v ss (values ts)
  trees-spelled end h k = tt
  trees-spelled (leaf t e ts) h k = (subst (λ k. LeafAt v k t.what) e (leaf-here t.what h.0 k.0), trees-spelled ts h.1 k.1)
  trees-spelled (node r cs ts) h k =
      let p = split (spelling cs) (spelling ts) h in
      let q = split-keywords (spelling cs) (spelling ts) k in
      (act-spelled r (values cs) (trees-spelled cs p.0 q.0), trees-spelled ts p.1 q.1)

  -- what a phrase of spelled tokens gives is spelled
  pub phrase-spelled : {n : Class} {tokens : List Token} {x : Value n} → TokensSpelled tokens → KeywordsSpelled v tokens → Phrase n tokens x
      → ValueSpelled v n x
  phrase-spelled {n} h k p =
      subst (ValueSpelled v n) p.given (trees-spelled p.parts (subst TokensSpelled (sym p.spelled) h) (subst (KeywordsSpelled v) (sym p.spelled) k)).0
