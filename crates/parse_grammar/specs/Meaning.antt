-- What each phrase means: a tree for each production, from those of its parts.
use Rattle.std.specs.Prelude.{Bool, true, false, List, [], ◌∷◌, Option, None, Some}
use Rattle.fing_lexer.specs.declared.token.Token.{Token}
use Rattle.omega_kinds.specs.Kind.{Star}
use Rattle.fing_syntax.specs.Phrase as tree
use Rattle.fing_syntax.specs.Phrase.{SpanName, Mod, SigEx, TyEx, TyExs, FieldTyExs, Exp, OpExps, FieldExps, ModAt, ModName, ModStruct, ModProject, ModFunctor, ModUnpack, BindAt, BindVal, BindTy, BindModule, BindSignature, BindInclude, NoBinds, MoreBinds, SigAt, PathSig, SigDecls, SigFun, DeclAt, DeclVal, DeclModule, DeclSignature, DeclInclude, NoDecls, MoreDecls, TyAt, PathTy, TyInt, TyBool, TyText, TyFields, TyAll, TyLam, TyPack, TySum, NoTys, MoreTys, NoFieldTys, MoreFieldTys, ExpAt, PathExp, ExpInt, ExpBool, ExpText, ExpFix, ExpIf, ExpFields, ExpInj, ExpCase, ExpRoll, ExpUnroll, NoOps, MoreOps, ArgExp, ArgTy, NoArgs, MoreArgs, NoFieldExps, MoreFieldExps, NoBranches, MoreBranches, Add, Sub, Mul, Div, Rem, Less, Equal}
use Rattle.fing_syntax.specs.Units.{UnitTree, UnitAt}
use Rattle.fing_syntax.specs.Place.{mod_span, sig_span, ty_span, exp_span, up_to}
use Rattle.parse_grammar.specs.Grammar.{Class, Units, OneUnit, Binds, Bind, Decls, Decl, TypeOf, K, KArrow, KA, P, Dots, T, TArrow, TC, TArgs, TA, TFields, MoreTFields, S, SArrow, Wheres, SA, M, MArgs, Seals, MA, E, Lam, EBranches, MoreEBranches, Compare, ES, Sums, EM, Products, EP, Args, EA, Gets, EB, EFields, MoreEFields, Symbol, token, phrase, Rule, rhs, no_units, more_units, unit_module, no_binds, more_binds, bind_val, bind_type, bind_data, bind_module, bind_signature, bind_include, no_decls, more_decls, decl_val, decl_type, decl_data, decl_module, decl_signature, decl_include, type_of_nothing, type_is, type_has, kind_chain, no_kind_arrow, kind_arrow, kind_type, kind_paren, path_name, path_from, no_dots, more_dots, ty_lam, ty_all, ty_chain, no_arrow, ty_arrow, ty_args, no_ty_args, more_ty_args, ty_int, ty_bool, ty_text, ty_path, ty_fields, ty_sum, ty_pack, ty_paren, no_ty_fields, ty_field, last_ty_field, next_ty_field, sig_fun, sig_where, generative, applicative, no_wheres, more_wheres, sig_path, sig_decls, sig_paren, mod_fun, mod_gen, mod_unpack, mod_chain, no_mod_args, more_mod_args, no_seals, seal, ascribe, mod_path, mod_struct, mod_let, mod_paren, exp_fun, exp_fix, exp_if, exp_case, exp_compare, lam_value, lam_type, no_branches, case_branch, last_branch, next_branch, no_compare, less_than, equal_to, sums, no_sums, add, subtract, products, no_products, multiply, divide, remainder, exp_args, no_args, exp_arg, ty_arg, exp_gets, no_gets, more_gets, exp_number, exp_text, exp_true, exp_false, exp_path, exp_fields, exp_inj, exp_roll, exp_unroll, exp_let, exp_pack, exp_paren, no_exp_fields, exp_field, last_exp_field, next_exp_field}
use Rattle.parse_grammar.specs.Parts.{at, bytes_in, number_in, named, Kinded, TypeTail, Open, Is, Has, Where, Ascription, Sealed, Shown, Abstraction, OfValue, OfType}
use Rattle.parse_grammar.specs.Forms.{mod_at, sig_at, ty_at, exp_at, let_mod, let_exp, pack_exp, data_bind, data_decl, project_all, get_all, apply_all, ascribe_all, refine_all, ty_chain_of, ops_of, args_of, arrow_of, kind_arrow_of, decl_type_of, abstraction_of}

-- what a phrase of each class gives
abbrev pub Value : Class → Type 0
Value Units = List UnitTree
Value OneUnit = UnitTree
Value Binds = tree.Binds
Value Bind = tree.Bind
Value Decls = tree.Decls
Value Decl = tree.Decl
Value TypeOf = TypeTail
Value K = Kinded
Value KArrow = Option Kinded
Value KA = Kinded
Value P = Mod
Value Dots = List SpanName
Value T = TyEx
Value TArrow = Option TyEx
Value TC = TyEx
Value TArgs = TyExs
Value TA = TyEx
Value TFields = FieldTyExs
Value MoreTFields = FieldTyExs
Value S = SigEx
Value SArrow = Bool
Value Wheres = List Where
Value SA = SigEx
Value M = Mod
Value MArgs = List Mod
Value Seals = List Ascription
Value MA = Mod
Value E = Exp
Value Lam = Abstraction
Value EBranches = tree.Branches
Value MoreEBranches = tree.Branches
Value Compare = OpExps
Value ES = Exp
Value Sums = OpExps
Value EM = Exp
Value Products = OpExps
Value EP = Exp
Value Args = tree.Args
Value EA = Exp
Value Gets = List SpanName
Value EB = Exp
Value EFields = FieldExps
Value MoreEFields = FieldExps

abbrev pub Values : List Symbol → Type 0
Values [] = Unit {0}
Values (token k ∷ ss) = Token × Values ss
Values (phrase n ∷ ss) = Value n × Values ss

-- the tree of a production, from those of its parts
abbrev pub act : {n : Class} → (r : Rule n) → Values (rhs r) → Value n
act no_units _ = []
act more_units (u, (us, _)) = u ∷ us
act unit_module (w, (x, (_, (g, (_, (s, (bs, (z, _)))))))) = UnitAt (up_to (at w) (at z)) (named x) g (ModAt (up_to (at s) (at z)) (ModStruct bs))
act no_binds _ = NoBinds
act more_binds (b, (bs, _)) = MoreBinds b bs
act bind_val (w, (x, (_, (e, _)))) = BindAt (up_to (at w) (exp_span e)) (BindVal (named x) e)
act bind_type (w, (x, (_, (t, _)))) = BindAt (up_to (at w) (ty_span t)) (BindTy (named x) t)
act bind_data (w, (x, (_, (t, _)))) = data_bind (up_to (at w) (ty_span t)) (named x) t
act bind_module (w, (x, (_, (m, _)))) = BindAt (up_to (at w) (mod_span m)) (BindModule (named x) m)
act bind_signature (w, (x, (_, (g, _)))) = BindAt (up_to (at w) (sig_span g)) (BindSignature (named x) g)
act bind_include (w, (m, _)) = BindAt (up_to (at w) (mod_span m)) (BindInclude m)
act no_decls _ = NoDecls
act more_decls (d, (ds, _)) = MoreDecls d ds
act decl_val (w, (x, (_, (t, _)))) = DeclAt (up_to (at w) (ty_span t)) (DeclVal (named x) t)
act decl_type (w, (x, (o, _))) = decl_type_of w x o
act decl_data (w, (x, (_, (t, _)))) = data_decl (up_to (at w) (ty_span t)) (named x) t
act decl_module (w, (x, (_, (g, _)))) = DeclAt (up_to (at w) (sig_span g)) (DeclModule (named x) g)
act decl_signature (w, (x, (_, (g, _)))) = DeclAt (up_to (at w) (sig_span g)) (DeclSignature (named x) g)
act decl_include (w, (g, _)) = DeclAt (up_to (at w) (sig_span g)) (DeclInclude g)
act type_of_nothing _ = Open
act type_is (_, (t, _)) = Is t
act type_has (_, (k, _)) = Has k
act kind_chain (k, (j, _)) = kind_arrow_of k j
act no_kind_arrow _ = None
act kind_arrow (_, (k, _)) = Some k
act kind_type (w, _) = record { kind = Star; last = at w }
act kind_paren (_, (k, (z, _))) = record { kind = k.kind; last = at z }
act path_name (x, (xs, _)) = project_all (ModAt (at x) (ModName (named x))) xs
act path_from (w, (_, (m, (_, (_, (x, (xs, _))))))) = project_all (ModAt (up_to (at w) (at x)) (ModProject m (named x))) xs
act no_dots _ = []
act more_dots (_, (x, (xs, _))) = named x ∷ xs
act ty_lam (w, (_, (x, (_, (k, (_, (_, (t, _)))))))) = TyAt (up_to (at w) (ty_span t)) (TyLam (named x) k.kind t)
act ty_all (w, (x, (_, (k, (_, (_, (t, _))))))) = TyAt (up_to (at w) (ty_span t)) (TyAll (named x) k.kind t)
act ty_chain (t, (u, _)) = arrow_of t u
act no_arrow _ = None
act ty_arrow (_, (t, _)) = Some t
act ty_args (t, (ts, _)) = ty_chain_of t ts
act no_ty_args _ = NoTys
act more_ty_args (t, (ts, _)) = MoreTys t ts
act ty_int (w, _) = TyAt (at w) TyInt
act ty_bool (w, _) = TyAt (at w) TyBool
act ty_text (w, _) = TyAt (at w) TyText
act ty_path (m, _) = TyAt (mod_span m) (PathTy m)
act ty_fields (w, (fs, (z, _))) = TyAt (up_to (at w) (at z)) (TyFields fs)
act ty_sum (w, (_, (fs, (z, _)))) = TyAt (up_to (at w) (at z)) (TySum fs)
act ty_pack (w, (g, _)) = TyAt (up_to (at w) (sig_span g)) (TyPack g)
act ty_paren (w, (t, (z, _))) = ty_at (up_to (at w) (at z)) t
act no_ty_fields _ = NoFieldTys
act ty_field (x, (_, (t, (fs, _)))) = MoreFieldTys (named x) t fs
act last_ty_field _ = NoFieldTys
act next_ty_field (_, (x, (_, (t, (fs, _))))) = MoreFieldTys (named x) t fs
act sig_fun (w, (_, (x, (_, (g, (_, (p, (h, _)))))))) = SigAt (up_to (at w) (sig_span h)) (SigFun p (named x) g h)
act sig_where (g, (ws, _)) = refine_all g ws
act generative _ = false
act applicative _ = true
act no_wheres _ = []
act more_wheres (_, (_, (x, (xs, (_, (t, (ws, _))))))) = record { first = named x; rest = xs; ty = t } ∷ ws
act sig_path (m, _) = SigAt (mod_span m) (PathSig m)
act sig_decls (w, (ds, (z, _))) = SigAt (up_to (at w) (at z)) (SigDecls ds)
act sig_paren (w, (g, (z, _))) = sig_at (up_to (at w) (at z)) g
act mod_fun (w, (_, (x, (_, (g, (_, (_, (m, _)))))))) = ModAt (up_to (at w) (mod_span m)) (ModFunctor false (named x) g m)
act mod_gen (w, (_, (x, (_, (g, (_, (_, (m, _)))))))) = ModAt (up_to (at w) (mod_span m)) (ModFunctor true (named x) g m)
act mod_unpack (w, (e, (_, (g, _)))) = ModAt (up_to (at w) (sig_span g)) (ModUnpack e g)
act mod_chain (m, (ms, (rest, _))) = ascribe_all (apply_all m ms) rest
act no_mod_args _ = []
act more_mod_args (m, (ms, _)) = m ∷ ms
act no_seals _ = []
act seal (_, (g, (rest, _))) = Sealed g ∷ rest
act ascribe (_, (g, (rest, _))) = Shown g ∷ rest
act mod_path (m, _) = m
act mod_struct (w, (bs, (z, _))) = ModAt (up_to (at w) (at z)) (ModStruct bs)
act mod_let (w, (bs, (_, (m, (z, _))))) = let_mod (up_to (at w) (at z)) bs m
act mod_paren (w, (m, (z, _))) = mod_at (up_to (at w) (at z)) m
act exp_fun (w, (l, _)) = abstraction_of w l
act exp_fix (w, (f, (_, (x, (_, (t, (_, (_, (u, (_, (e, _))))))))))) = ExpAt (up_to (at w) (exp_span e)) (ExpFix (named f) (named x) t u e)
act exp_if (w, (e, (_, (f, (_, (g, _)))))) = ExpAt (up_to (at w) (exp_span g)) (ExpIf e f g)
act exp_case (w, (e, (_, (t, (_, (_, (bs, (z, _)))))))) = ExpAt (up_to (at w) (at z)) (ExpCase e t bs)
act exp_compare (e, (o, _)) = ops_of e o
act lam_value (_, (x, (_, (t, (_, (_, (e, _))))))) = OfValue (named x) t e
act lam_type (_, (x, (_, (k, (_, (_, (e, _))))))) = OfType (named x) k.kind e
act no_branches _ = NoBranches
act case_branch (l, (_, (x, (_, (_, (e, (bs, _))))))) = MoreBranches (named l) (named x) e bs
act last_branch _ = NoBranches
act next_branch (_, (l, (_, (x, (_, (_, (e, (bs, _)))))))) = MoreBranches (named l) (named x) e bs
act no_compare _ = NoOps
act less_than (_, (e, _)) = MoreOps Less e NoOps
act equal_to (_, (e, _)) = MoreOps Equal e NoOps
act sums (e, (r, _)) = ops_of e r
act no_sums _ = NoOps
act add (_, (e, (r, _))) = MoreOps Add e r
act subtract (_, (e, (r, _))) = MoreOps Sub e r
act products (e, (r, _)) = ops_of e r
act no_products _ = NoOps
act multiply (_, (e, (r, _))) = MoreOps Mul e r
act divide (_, (e, (r, _))) = MoreOps Div e r
act remainder (_, (e, (r, _))) = MoreOps Rem e r
act exp_args (e, (r, _)) = args_of e r
act no_args _ = NoArgs
act exp_arg (e, (r, _)) = MoreArgs (ArgExp e) r
act ty_arg (w, (t, (z, (r, _)))) = MoreArgs (ArgTy t (up_to (at w) (at z))) r
act exp_gets (e, (xs, _)) = get_all e xs
act no_gets _ = []
act more_gets (_, (x, (xs, _))) = named x ∷ xs
act exp_number (t, _) = ExpAt (at t) (ExpInt (number_in t.what))
act exp_text (t, _) = ExpAt (at t) (ExpText (bytes_in t.what))
act exp_true (t, _) = ExpAt (at t) (ExpBool true)
act exp_false (t, _) = ExpAt (at t) (ExpBool false)
act exp_path (m, _) = ExpAt (mod_span m) (PathExp m)
act exp_fields (w, (fs, (z, _))) = ExpAt (up_to (at w) (at z)) (ExpFields fs)
act exp_inj (w, (x, (e, (_, (t, _))))) = ExpAt (up_to (at w) (ty_span t)) (ExpInj (named x) e t)
act exp_roll (w, (e, (_, (t, _)))) = ExpAt (up_to (at w) (ty_span t)) (ExpRoll e t)
act exp_unroll (w, (e, _)) = ExpAt (up_to (at w) (exp_span e)) (ExpUnroll e)
act exp_let (w, (bs, (_, (e, (z, _))))) = let_exp (up_to (at w) (at z)) bs e
act exp_pack (w, (m, (_, (g, _)))) = pack_exp (up_to (at w) (sig_span g)) m g
act exp_paren (w, (e, (z, _))) = exp_at (up_to (at w) (at z)) e
act no_exp_fields _ = NoFieldExps
act exp_field (x, (_, (e, (fs, _)))) = MoreFieldExps (named x) e fs
act last_exp_field _ = NoFieldExps
act next_exp_field (_, (x, (_, (e, (fs, _))))) = MoreFieldExps (named x) e fs
