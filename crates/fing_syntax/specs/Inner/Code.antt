-- The codes of phrases: trees of numbers that give them back.
use Rattle.std.specs.Prelude.{◌≡◌, ℕ, zero, suc, ℤ, pos, negsuc, List, [], ◌∷◌, Bool as Truth, true, false, refl}
use base.Stored.{Gv, gnil, gnum, gcons}
use denote.Struct.Codes.{itself}
use Rattle.std.specs.Coded.{Coded, code_by}
use Rattle.omega_kinds.specs.Kind.{Star}
use Rattle.omega_kinds.specs.Inner.Code.{stored_kind, restored_kind, restored-stored_kind as kind_again, stored_bytes, restored_bytes, restored-stored_bytes as bytes_again}
use Rattle.fing_syntax.specs.Phrase.{Span, Bytes, SpanName, Spelled, Op, Add, Sub, Mul, Div, Rem, Less, Equal, Mod, ModWhat, Bind, BindWhat, SigEx, SigWhat, Decl, DeclWhat, TyEx, TyWhat, Exp, ExpWhat, Binds, Decls, TyExs, FieldTyExs, OpExps, Args, FieldExps, Arg, Branches, ModAt, ModName, ModStruct, ModProject, ModFunctor, ModApply, ModSeal, ModUnpack, BindAt, BindVal, BindTy, BindModule, BindSignature, BindInclude, SigAt, PathSig, SigDecls, SigFun, SigRefine, DeclAt, DeclVal, DeclTyIs, DeclTyOf, DeclModule, DeclSignature, DeclInclude, TyAt, PathTy, TyInt, TyBool, TyText, TyArrow, TyApply, TyFields, TyAll, TyLam, TyPack, TySum, TyMu, ExpAt, PathExp, ExpInt, ExpBool, ExpText, ExpLam, ExpTyLam, ExpFix, ExpIf, ExpOps, ExpApply, ExpFields, ExpGet, ExpPack, ExpInj, ExpCase, ExpRoll, ExpUnroll, NoBinds, MoreBinds, NoDecls, MoreDecls, NoTys, MoreTys, NoFieldTys, MoreFieldTys, NoOps, MoreOps, NoArgs, MoreArgs, NoFieldExps, MoreFieldExps, NoBranches, MoreBranches, ArgExp, ArgTy}

abbrev pub stored_span : Span → Gv
stored_span (Bytes a b) = gcons (gnum a) (gnum b)

abbrev pub restored_span : Gv → Span
restored_span (gcons (gnum a) (gnum b)) = Bytes a b
restored_span _ = Bytes 0 0

pub span_again : (s : Span) → restored_span (stored_span s) ≡ s
span_again (Bytes a b) = refl

abbrev pub stored_name : SpanName → Gv
stored_name (Spelled n s) = gcons (stored_bytes n) (stored_span s)

abbrev pub restored_name : Gv → SpanName
restored_name (gcons a b) = Spelled (restored_bytes a) (restored_span b)
restored_name _ = Spelled [] (Bytes 0 0)

pub name_again : (n : SpanName) → restored_name (stored_name n) ≡ n
name_again (Spelled n s) = λ i. Spelled (bytes_again n i) (span_again s i)

abbrev pub stored_names : List SpanName → Gv
stored_names [] = gnil
stored_names (x ∷ xs) = gcons (stored_name x) (stored_names xs)

abbrev pub restored_names : Gv → List SpanName
restored_names (gcons a b) = restored_name a ∷ restored_names b
restored_names _ = []

pub names_again : (xs : List SpanName) → restored_names (stored_names xs) ≡ xs
names_again [] = refl
names_again (x ∷ xs) = λ i. name_again x i ∷ names_again xs i

abbrev pub stored_truth : Truth → Gv
stored_truth true = gnil
stored_truth false = gnum 0

abbrev pub restored_truth : Gv → Truth
restored_truth gnil = true
restored_truth _ = false

pub truth_again : (b : Truth) → restored_truth (stored_truth b) ≡ b
truth_again true = refl
truth_again false = refl

abbrev pub stored_int : ℤ → Gv
stored_int (pos n) = gnum n
stored_int (negsuc n) = gcons gnil (gnum n)

abbrev pub restored_int : Gv → ℤ
restored_int (gnum n) = pos n
restored_int (gcons gnil (gnum n)) = negsuc n
restored_int _ = pos 0

pub int_again : (n : ℤ) → restored_int (stored_int n) ≡ n
int_again (pos n) = refl
int_again (negsuc n) = refl

abbrev pub stored_op : Op → Gv
stored_op Add = gnum 0
stored_op Sub = gnum 1
stored_op Mul = gnum 2
stored_op Div = gnum 3
stored_op Rem = gnum 4
stored_op Less = gnum 5
stored_op Equal = gnum 6

-- the choice by number; past the end the last one
abbrev pub pick2 : {A : Type 0} → ℕ → A → A → A
pick2 zero x0 x1 = x0
pick2 (suc n) x0 x1 = x1

abbrev pub pick4 : {A : Type 0} → ℕ → A → A → A → A → A
pick4 zero x0 x1 x2 x3 = x0
pick4 (suc zero) x0 x1 x2 x3 = x1
pick4 (suc (suc zero)) x0 x1 x2 x3 = x2
pick4 (suc (suc (suc n))) x0 x1 x2 x3 = x3

abbrev pub pick5 : {A : Type 0} → ℕ → A → A → A → A → A → A
pick5 zero x0 x1 x2 x3 x4 = x0
pick5 (suc zero) x0 x1 x2 x3 x4 = x1
pick5 (suc (suc zero)) x0 x1 x2 x3 x4 = x2
pick5 (suc (suc (suc zero))) x0 x1 x2 x3 x4 = x3
pick5 (suc (suc (suc (suc n)))) x0 x1 x2 x3 x4 = x4

abbrev pub pick6 : {A : Type 0} → ℕ → A → A → A → A → A → A → A
pick6 zero x0 x1 x2 x3 x4 x5 = x0
pick6 (suc zero) x0 x1 x2 x3 x4 x5 = x1
pick6 (suc (suc zero)) x0 x1 x2 x3 x4 x5 = x2
pick6 (suc (suc (suc zero))) x0 x1 x2 x3 x4 x5 = x3
pick6 (suc (suc (suc (suc zero)))) x0 x1 x2 x3 x4 x5 = x4
pick6 (suc (suc (suc (suc (suc n))))) x0 x1 x2 x3 x4 x5 = x5

abbrev pub pick7 : {A : Type 0} → ℕ → A → A → A → A → A → A → A → A
pick7 zero x0 x1 x2 x3 x4 x5 x6 = x0
pick7 (suc zero) x0 x1 x2 x3 x4 x5 x6 = x1
pick7 (suc (suc zero)) x0 x1 x2 x3 x4 x5 x6 = x2
pick7 (suc (suc (suc zero))) x0 x1 x2 x3 x4 x5 x6 = x3
pick7 (suc (suc (suc (suc zero)))) x0 x1 x2 x3 x4 x5 x6 = x4
pick7 (suc (suc (suc (suc (suc zero))))) x0 x1 x2 x3 x4 x5 x6 = x5
pick7 (suc (suc (suc (suc (suc (suc n)))))) x0 x1 x2 x3 x4 x5 x6 = x6

abbrev pub pick12 : {A : Type 0} → ℕ → A → A → A → A → A → A → A → A → A → A → A → A → A
pick12 zero x0 x1 x2 x3 x4 x5 x6 x7 x8 x9 x10 x11 = x0
pick12 (suc zero) x0 x1 x2 x3 x4 x5 x6 x7 x8 x9 x10 x11 = x1
pick12 (suc (suc zero)) x0 x1 x2 x3 x4 x5 x6 x7 x8 x9 x10 x11 = x2
pick12 (suc (suc (suc zero))) x0 x1 x2 x3 x4 x5 x6 x7 x8 x9 x10 x11 = x3
pick12 (suc (suc (suc (suc zero)))) x0 x1 x2 x3 x4 x5 x6 x7 x8 x9 x10 x11 = x4
pick12 (suc (suc (suc (suc (suc zero))))) x0 x1 x2 x3 x4 x5 x6 x7 x8 x9 x10 x11 = x5
pick12 (suc (suc (suc (suc (suc (suc zero)))))) x0 x1 x2 x3 x4 x5 x6 x7 x8 x9 x10 x11 = x6
pick12 (suc (suc (suc (suc (suc (suc (suc zero))))))) x0 x1 x2 x3 x4 x5 x6 x7 x8 x9 x10 x11 = x7
pick12 (suc (suc (suc (suc (suc (suc (suc (suc zero)))))))) x0 x1 x2 x3 x4 x5 x6 x7 x8 x9 x10 x11 = x8
pick12 (suc (suc (suc (suc (suc (suc (suc (suc (suc zero))))))))) x0 x1 x2 x3 x4 x5 x6 x7 x8 x9 x10 x11 = x9
pick12 (suc (suc (suc (suc (suc (suc (suc (suc (suc (suc zero)))))))))) x0 x1 x2 x3 x4 x5 x6 x7 x8 x9 x10 x11 = x10
pick12 (suc (suc (suc (suc (suc (suc (suc (suc (suc (suc (suc n))))))))))) x0 x1 x2 x3 x4 x5 x6 x7 x8 x9 x10 x11 = x11

abbrev pub pick17 : {A : Type 0} → ℕ → A → A → A → A → A → A → A → A → A → A → A → A → A → A → A → A → A → A
pick17 zero x0 x1 x2 x3 x4 x5 x6 x7 x8 x9 x10 x11 x12 x13 x14 x15 x16 = x0
pick17 (suc zero) x0 x1 x2 x3 x4 x5 x6 x7 x8 x9 x10 x11 x12 x13 x14 x15 x16 = x1
pick17 (suc (suc zero)) x0 x1 x2 x3 x4 x5 x6 x7 x8 x9 x10 x11 x12 x13 x14 x15 x16 = x2
pick17 (suc (suc (suc zero))) x0 x1 x2 x3 x4 x5 x6 x7 x8 x9 x10 x11 x12 x13 x14 x15 x16 = x3
pick17 (suc (suc (suc (suc zero)))) x0 x1 x2 x3 x4 x5 x6 x7 x8 x9 x10 x11 x12 x13 x14 x15 x16 = x4
pick17 (suc (suc (suc (suc (suc zero))))) x0 x1 x2 x3 x4 x5 x6 x7 x8 x9 x10 x11 x12 x13 x14 x15 x16 = x5
pick17 (suc (suc (suc (suc (suc (suc zero)))))) x0 x1 x2 x3 x4 x5 x6 x7 x8 x9 x10 x11 x12 x13 x14 x15 x16 = x6
pick17 (suc (suc (suc (suc (suc (suc (suc zero))))))) x0 x1 x2 x3 x4 x5 x6 x7 x8 x9 x10 x11 x12 x13 x14 x15 x16 = x7
pick17 (suc (suc (suc (suc (suc (suc (suc (suc zero)))))))) x0 x1 x2 x3 x4 x5 x6 x7 x8 x9 x10 x11 x12 x13 x14 x15 x16 = x8
pick17 (suc (suc (suc (suc (suc (suc (suc (suc (suc zero))))))))) x0 x1 x2 x3 x4 x5 x6 x7 x8 x9 x10 x11 x12 x13 x14 x15 x16 = x9
pick17 (suc (suc (suc (suc (suc (suc (suc (suc (suc (suc zero)))))))))) x0 x1 x2 x3 x4 x5 x6 x7 x8 x9 x10 x11 x12 x13 x14 x15 x16 = x10
pick17 (suc (suc (suc (suc (suc (suc (suc (suc (suc (suc (suc zero))))))))))) x0 x1 x2 x3 x4 x5 x6 x7 x8 x9 x10 x11 x12 x13 x14 x15 x16 = x11
pick17 (suc (suc (suc (suc (suc (suc (suc (suc (suc (suc (suc (suc zero)))))))))))) x0 x1 x2 x3 x4 x5 x6 x7 x8 x9 x10 x11 x12 x13 x14 x15 x16 = x12
pick17 (suc (suc (suc (suc (suc (suc (suc (suc (suc (suc (suc (suc (suc zero))))))))))))) x0 x1 x2 x3 x4 x5 x6 x7 x8 x9 x10 x11 x12 x13 x14 x15 x16 = x13
pick17 (suc (suc (suc (suc (suc (suc (suc (suc (suc (suc (suc (suc (suc (suc zero)))))))))))))) x0 x1 x2 x3 x4 x5 x6 x7 x8 x9 x10 x11 x12 x13 x14 x15 x16 = x14
pick17 (suc (suc (suc (suc (suc (suc (suc (suc (suc (suc (suc (suc (suc (suc (suc zero))))))))))))))) x0 x1 x2 x3 x4 x5 x6 x7 x8 x9 x10 x11 x12 x13 x14 x15 x16 = x15
pick17 (suc (suc (suc (suc (suc (suc (suc (suc (suc (suc (suc (suc (suc (suc (suc (suc n)))))))))))))))) x0 x1 x2 x3 x4 x5 x6 x7 x8 x9 x10 x11 x12 x13 x14 x15 x16 = x16

abbrev pub restored_op : Gv → Op
restored_op (gnum n) = pick7 n Add Sub Mul Div Rem Less Equal
restored_op _ = Add

pub op_again : (o : Op) → restored_op (stored_op o) ≡ o
op_again Add = refl
op_again Sub = refl
op_again Mul = refl
op_again Div = refl
op_again Rem = refl
op_again Less = refl
op_again Equal = refl

abbrev mutual
  pub stored_mod : Mod → Gv
  stored_mod (ModAt a b) = gcons (gnum 0) (gcons (stored_span a) (gcons (stored_mod_what b) gnil))

  pub stored_mod_what : ModWhat → Gv
  stored_mod_what (ModName a) = gcons (gnum 0) (gcons (stored_name a) (gcons gnil (gcons gnil (gcons gnil gnil))))
  stored_mod_what (ModStruct a) = gcons (gnum 1) (gcons (stored_binds a) (gcons gnil (gcons gnil (gcons gnil gnil))))
  stored_mod_what (ModProject a b) = gcons (gnum 2) (gcons (stored_mod a) (gcons (stored_name b) (gcons gnil (gcons gnil gnil))))
  stored_mod_what (ModFunctor a b c d) = gcons (gnum 3) (gcons (stored_truth a) (gcons (stored_name b) (gcons (stored_sig c) (gcons (stored_mod d) gnil))))
  stored_mod_what (ModApply a b) = gcons (gnum 4) (gcons (stored_name a) (gcons (stored_name b) (gcons gnil (gcons gnil gnil))))
  stored_mod_what (ModSeal a b) = gcons (gnum 5) (gcons (stored_name a) (gcons (stored_sig b) (gcons gnil (gcons gnil gnil))))
  stored_mod_what (ModUnpack a b) = gcons (gnum 6) (gcons (stored_exp a) (gcons (stored_sig b) (gcons gnil (gcons gnil gnil))))

  pub stored_bind : Bind → Gv
  stored_bind (BindAt a b) = gcons (gnum 0) (gcons (stored_span a) (gcons (stored_bind_what b) gnil))

  pub stored_bind_what : BindWhat → Gv
  stored_bind_what (BindVal a b) = gcons (gnum 0) (gcons (stored_name a) (gcons (stored_exp b) gnil))
  stored_bind_what (BindTy a b) = gcons (gnum 1) (gcons (stored_name a) (gcons (stored_ty b) gnil))
  stored_bind_what (BindModule a b) = gcons (gnum 2) (gcons (stored_name a) (gcons (stored_mod b) gnil))
  stored_bind_what (BindSignature a b) = gcons (gnum 3) (gcons (stored_name a) (gcons (stored_sig b) gnil))
  stored_bind_what (BindInclude a) = gcons (gnum 4) (gcons (stored_mod a) (gcons gnil gnil))

  pub stored_sig : SigEx → Gv
  stored_sig (SigAt a b) = gcons (gnum 0) (gcons (stored_span a) (gcons (stored_sig_what b) gnil))

  pub stored_sig_what : SigWhat → Gv
  stored_sig_what (PathSig a) = gcons (gnum 0) (gcons (stored_mod a) (gcons gnil (gcons gnil (gcons gnil gnil))))
  stored_sig_what (SigDecls a) = gcons (gnum 1) (gcons (stored_decls a) (gcons gnil (gcons gnil (gcons gnil gnil))))
  stored_sig_what (SigFun a b c d) = gcons (gnum 2) (gcons (stored_truth a) (gcons (stored_name b) (gcons (stored_sig c) (gcons (stored_sig d) gnil))))
  stored_sig_what (SigRefine a b c d) = gcons (gnum 3) (gcons (stored_sig a) (gcons (stored_name b) (gcons (stored_names c) (gcons (stored_ty d) gnil))))

  pub stored_decl : Decl → Gv
  stored_decl (DeclAt a b) = gcons (gnum 0) (gcons (stored_span a) (gcons (stored_decl_what b) gnil))

  pub stored_decl_what : DeclWhat → Gv
  stored_decl_what (DeclVal a b) = gcons (gnum 0) (gcons (stored_name a) (gcons (stored_ty b) gnil))
  stored_decl_what (DeclTyIs a b) = gcons (gnum 1) (gcons (stored_name a) (gcons (stored_ty b) gnil))
  stored_decl_what (DeclTyOf a b) = gcons (gnum 2) (gcons (stored_name a) (gcons (stored_kind b) gnil))
  stored_decl_what (DeclModule a b) = gcons (gnum 3) (gcons (stored_name a) (gcons (stored_sig b) gnil))
  stored_decl_what (DeclSignature a b) = gcons (gnum 4) (gcons (stored_name a) (gcons (stored_sig b) gnil))
  stored_decl_what (DeclInclude a) = gcons (gnum 5) (gcons (stored_sig a) (gcons gnil gnil))

  pub stored_ty : TyEx → Gv
  stored_ty (TyAt a b) = gcons (gnum 0) (gcons (stored_span a) (gcons (stored_ty_what b) gnil))

  pub stored_ty_what : TyWhat → Gv
  stored_ty_what (PathTy a) = gcons (gnum 0) (gcons (stored_mod a) (gcons gnil (gcons gnil gnil)))
  stored_ty_what TyInt = gcons (gnum 1) (gcons gnil (gcons gnil (gcons gnil gnil)))
  stored_ty_what TyBool = gcons (gnum 2) (gcons gnil (gcons gnil (gcons gnil gnil)))
  stored_ty_what TyText = gcons (gnum 3) (gcons gnil (gcons gnil (gcons gnil gnil)))
  stored_ty_what (TyArrow a b) = gcons (gnum 4) (gcons (stored_ty a) (gcons (stored_ty b) (gcons gnil gnil)))
  stored_ty_what (TyApply a b) = gcons (gnum 5) (gcons (stored_ty a) (gcons (stored_tys b) (gcons gnil gnil)))
  stored_ty_what (TyFields a) = gcons (gnum 6) (gcons (stored_field_tys a) (gcons gnil (gcons gnil gnil)))
  stored_ty_what (TyAll a b c) = gcons (gnum 7) (gcons (stored_name a) (gcons (stored_kind b) (gcons (stored_ty c) gnil)))
  stored_ty_what (TyLam a b c) = gcons (gnum 8) (gcons (stored_name a) (gcons (stored_kind b) (gcons (stored_ty c) gnil)))
  stored_ty_what (TyPack a) = gcons (gnum 9) (gcons (stored_sig a) (gcons gnil (gcons gnil gnil)))
  stored_ty_what (TySum a) = gcons (gnum 10) (gcons (stored_field_tys a) (gcons gnil (gcons gnil gnil)))
  stored_ty_what (TyMu a b) = gcons (gnum 11) (gcons (stored_name a) (gcons (stored_ty b) (gcons gnil gnil)))

  pub stored_exp : Exp → Gv
  stored_exp (ExpAt a b) = gcons (gnum 0) (gcons (stored_span a) (gcons (stored_exp_what b) gnil))

  pub stored_exp_what : ExpWhat → Gv
  stored_exp_what (PathExp a) = gcons (gnum 0) (gcons (stored_mod a) (gcons gnil (gcons gnil (gcons gnil (gcons gnil gnil)))))
  stored_exp_what (ExpInt a) = gcons (gnum 1) (gcons (stored_int a) (gcons gnil (gcons gnil (gcons gnil (gcons gnil gnil)))))
  stored_exp_what (ExpBool a) = gcons (gnum 2) (gcons (stored_truth a) (gcons gnil (gcons gnil (gcons gnil (gcons gnil gnil)))))
  stored_exp_what (ExpText a) = gcons (gnum 3) (gcons (stored_bytes a) (gcons gnil (gcons gnil (gcons gnil (gcons gnil gnil)))))
  stored_exp_what (ExpLam a b c) = gcons (gnum 4) (gcons (stored_name a) (gcons (stored_ty b) (gcons (stored_exp c) (gcons gnil (gcons gnil gnil)))))
  stored_exp_what (ExpTyLam a b c) = gcons (gnum 5) (gcons (stored_name a) (gcons (stored_kind b) (gcons (stored_exp c) (gcons gnil (gcons gnil gnil)))))
  stored_exp_what (ExpFix a b c d e) = gcons (gnum 6) (gcons (stored_name a) (gcons (stored_name b) (gcons (stored_ty c) (gcons (stored_ty d) (gcons (stored_exp e) gnil)))))
  stored_exp_what (ExpIf a b c) = gcons (gnum 7) (gcons (stored_exp a) (gcons (stored_exp b) (gcons (stored_exp c) (gcons gnil (gcons gnil gnil)))))
  stored_exp_what (ExpOps a b) = gcons (gnum 8) (gcons (stored_exp a) (gcons (stored_ops b) (gcons gnil (gcons gnil (gcons gnil gnil)))))
  stored_exp_what (ExpApply a b) = gcons (gnum 9) (gcons (stored_exp a) (gcons (stored_args b) (gcons gnil (gcons gnil (gcons gnil gnil)))))
  stored_exp_what (ExpFields a) = gcons (gnum 10) (gcons (stored_field_exps a) (gcons gnil (gcons gnil (gcons gnil (gcons gnil gnil)))))
  stored_exp_what (ExpGet a b) = gcons (gnum 11) (gcons (stored_exp a) (gcons (stored_name b) (gcons gnil (gcons gnil (gcons gnil gnil)))))
  stored_exp_what (ExpPack a b) = gcons (gnum 12) (gcons (stored_name a) (gcons (stored_sig b) (gcons gnil (gcons gnil (gcons gnil gnil)))))
  stored_exp_what (ExpInj a b c) = gcons (gnum 13) (gcons (stored_name a) (gcons (stored_exp b) (gcons (stored_ty c) (gcons gnil (gcons gnil gnil)))))
  stored_exp_what (ExpCase a b c) = gcons (gnum 14) (gcons (stored_exp a) (gcons (stored_ty b) (gcons (stored_branches c) (gcons gnil (gcons gnil gnil)))))
  stored_exp_what (ExpRoll a b) = gcons (gnum 15) (gcons (stored_exp a) (gcons (stored_ty b) (gcons gnil (gcons gnil (gcons gnil gnil)))))
  stored_exp_what (ExpUnroll a) = gcons (gnum 16) (gcons (stored_exp a) (gcons gnil (gcons gnil (gcons gnil (gcons gnil gnil)))))

  pub stored_binds : Binds → Gv
  stored_binds NoBinds = gcons (gnum 0) (gcons gnil (gcons gnil gnil))
  stored_binds (MoreBinds a b) = gcons (gnum 1) (gcons (stored_bind a) (gcons (stored_binds b) gnil))

  pub stored_decls : Decls → Gv
  stored_decls NoDecls = gcons (gnum 0) (gcons gnil (gcons gnil gnil))
  stored_decls (MoreDecls a b) = gcons (gnum 1) (gcons (stored_decl a) (gcons (stored_decls b) gnil))

  pub stored_tys : TyExs → Gv
  stored_tys NoTys = gcons (gnum 0) (gcons gnil (gcons gnil gnil))
  stored_tys (MoreTys a b) = gcons (gnum 1) (gcons (stored_ty a) (gcons (stored_tys b) gnil))

  pub stored_field_tys : FieldTyExs → Gv
  stored_field_tys NoFieldTys = gcons (gnum 0) (gcons gnil (gcons gnil (gcons gnil gnil)))
  stored_field_tys (MoreFieldTys a b c) = gcons (gnum 1) (gcons (stored_name a) (gcons (stored_ty b) (gcons (stored_field_tys c) gnil)))

  pub stored_ops : OpExps → Gv
  stored_ops NoOps = gcons (gnum 0) (gcons gnil (gcons gnil (gcons gnil gnil)))
  stored_ops (MoreOps a b c) = gcons (gnum 1) (gcons (stored_op a) (gcons (stored_exp b) (gcons (stored_ops c) gnil)))

  pub stored_args : Args → Gv
  stored_args NoArgs = gcons (gnum 0) (gcons gnil (gcons gnil gnil))
  stored_args (MoreArgs a b) = gcons (gnum 1) (gcons (stored_arg a) (gcons (stored_args b) gnil))

  pub stored_field_exps : FieldExps → Gv
  stored_field_exps NoFieldExps = gcons (gnum 0) (gcons gnil (gcons gnil (gcons gnil gnil)))
  stored_field_exps (MoreFieldExps a b c) = gcons (gnum 1) (gcons (stored_name a) (gcons (stored_exp b) (gcons (stored_field_exps c) gnil)))

  pub stored_branches : Branches → Gv
  stored_branches NoBranches = gcons (gnum 0) (gcons gnil (gcons gnil (gcons gnil (gcons gnil gnil))))
  stored_branches (MoreBranches a b c d) = gcons (gnum 1) (gcons (stored_name a) (gcons (stored_name b) (gcons (stored_exp c) (gcons (stored_branches d) gnil))))

  pub stored_arg : Arg → Gv
  stored_arg (ArgExp a) = gcons (gnum 0) (gcons (stored_exp a) (gcons gnil gnil))
  stored_arg (ArgTy a b) = gcons (gnum 1) (gcons (stored_ty a) (gcons (stored_span b) gnil))

-- a value for what is no code
abbrev pub no_mod_what : ModWhat
no_mod_what = ModName (Spelled [] (Bytes 0 0))

abbrev pub no_decl_what : DeclWhat
no_decl_what = DeclTyOf (Spelled [] (Bytes 0 0)) Star

abbrev pub no_ty_what : TyWhat
no_ty_what = TyInt

abbrev pub no_exp_what : ExpWhat
no_exp_what = ExpInt (pos 0)

abbrev pub no_binds : Binds
no_binds = NoBinds

abbrev pub no_decls : Decls
no_decls = NoDecls

abbrev pub no_tys : TyExs
no_tys = NoTys

abbrev pub no_field_tys : FieldTyExs
no_field_tys = NoFieldTys

abbrev pub no_ops : OpExps
no_ops = NoOps

abbrev pub no_args : Args
no_args = NoArgs

abbrev pub no_field_exps : FieldExps
no_field_exps = NoFieldExps

abbrev pub no_branches : Branches
no_branches = NoBranches

abbrev pub no_mod : Mod
no_mod = ModAt (Bytes 0 0) no_mod_what

abbrev pub no_bind_what : BindWhat
no_bind_what = BindModule (Spelled [] (Bytes 0 0)) no_mod

abbrev pub no_sig_what : SigWhat
no_sig_what = PathSig no_mod

abbrev pub no_decl : Decl
no_decl = DeclAt (Bytes 0 0) no_decl_what

abbrev pub no_ty : TyEx
no_ty = TyAt (Bytes 0 0) no_ty_what

abbrev pub no_exp : Exp
no_exp = ExpAt (Bytes 0 0) no_exp_what

abbrev pub no_arg : Arg
no_arg = ArgExp no_exp

abbrev pub no_bind : Bind
no_bind = BindAt (Bytes 0 0) no_bind_what

abbrev pub no_sig : SigEx
no_sig = SigAt (Bytes 0 0) no_sig_what

abbrev mutual
  pub restored_mod : Gv → Mod
  restored_mod (gcons (gnum n) (gcons a (gcons b z))) = ModAt (restored_span a) (restored_mod_what b)
  restored_mod _ = no_mod

  pub restored_mod_what : Gv → ModWhat
  restored_mod_what (gcons (gnum n) (gcons a (gcons b (gcons c (gcons d z))))) = pick7 n (ModName (restored_name a)) (ModStruct (restored_binds a)) (ModProject (restored_mod a) (restored_name b)) (ModFunctor (restored_truth a) (restored_name b) (restored_sig c) (restored_mod d)) (ModApply (restored_name a) (restored_name b)) (ModSeal (restored_name a) (restored_sig b)) (ModUnpack (restored_exp a) (restored_sig b))
  restored_mod_what _ = no_mod_what

  pub restored_bind : Gv → Bind
  restored_bind (gcons (gnum n) (gcons a (gcons b z))) = BindAt (restored_span a) (restored_bind_what b)
  restored_bind _ = no_bind

  pub restored_bind_what : Gv → BindWhat
  restored_bind_what (gcons (gnum n) (gcons a (gcons b z))) = pick5 n (BindVal (restored_name a) (restored_exp b)) (BindTy (restored_name a) (restored_ty b)) (BindModule (restored_name a) (restored_mod b)) (BindSignature (restored_name a) (restored_sig b)) (BindInclude (restored_mod a))
  restored_bind_what _ = no_bind_what

  pub restored_sig : Gv → SigEx
  restored_sig (gcons (gnum n) (gcons a (gcons b z))) = SigAt (restored_span a) (restored_sig_what b)
  restored_sig _ = no_sig

  pub restored_sig_what : Gv → SigWhat
  restored_sig_what (gcons (gnum n) (gcons a (gcons b (gcons c (gcons d z))))) = pick4 n (PathSig (restored_mod a)) (SigDecls (restored_decls a)) (SigFun (restored_truth a) (restored_name b) (restored_sig c) (restored_sig d)) (SigRefine (restored_sig a) (restored_name b) (restored_names c) (restored_ty d))
  restored_sig_what _ = no_sig_what

  pub restored_decl : Gv → Decl
  restored_decl (gcons (gnum n) (gcons a (gcons b z))) = DeclAt (restored_span a) (restored_decl_what b)
  restored_decl _ = no_decl

  pub restored_decl_what : Gv → DeclWhat
  restored_decl_what (gcons (gnum n) (gcons a (gcons b z))) = pick6 n (DeclVal (restored_name a) (restored_ty b)) (DeclTyIs (restored_name a) (restored_ty b)) (DeclTyOf (restored_name a) (restored_kind b)) (DeclModule (restored_name a) (restored_sig b)) (DeclSignature (restored_name a) (restored_sig b)) (DeclInclude (restored_sig a))
  restored_decl_what _ = no_decl_what

  pub restored_ty : Gv → TyEx
  restored_ty (gcons (gnum n) (gcons a (gcons b z))) = TyAt (restored_span a) (restored_ty_what b)
  restored_ty _ = no_ty

  pub restored_ty_what : Gv → TyWhat
  restored_ty_what (gcons (gnum n) (gcons a (gcons b (gcons c z)))) = pick12 n (PathTy (restored_mod a)) TyInt TyBool TyText (TyArrow (restored_ty a) (restored_ty b)) (TyApply (restored_ty a) (restored_tys b)) (TyFields (restored_field_tys a)) (TyAll (restored_name a) (restored_kind b) (restored_ty c)) (TyLam (restored_name a) (restored_kind b) (restored_ty c)) (TyPack (restored_sig a)) (TySum (restored_field_tys a)) (TyMu (restored_name a) (restored_ty b))
  restored_ty_what _ = no_ty_what

  pub restored_exp : Gv → Exp
  restored_exp (gcons (gnum n) (gcons a (gcons b z))) = ExpAt (restored_span a) (restored_exp_what b)
  restored_exp _ = no_exp

  pub restored_exp_what : Gv → ExpWhat
  restored_exp_what (gcons (gnum n) (gcons a (gcons b (gcons c (gcons d (gcons e z)))))) = pick17 n (PathExp (restored_mod a)) (ExpInt (restored_int a)) (ExpBool (restored_truth a)) (ExpText (restored_bytes a)) (ExpLam (restored_name a) (restored_ty b) (restored_exp c)) (ExpTyLam (restored_name a) (restored_kind b) (restored_exp c)) (ExpFix (restored_name a) (restored_name b) (restored_ty c) (restored_ty d) (restored_exp e)) (ExpIf (restored_exp a) (restored_exp b) (restored_exp c)) (ExpOps (restored_exp a) (restored_ops b)) (ExpApply (restored_exp a) (restored_args b)) (ExpFields (restored_field_exps a)) (ExpGet (restored_exp a) (restored_name b)) (ExpPack (restored_name a) (restored_sig b)) (ExpInj (restored_name a) (restored_exp b) (restored_ty c)) (ExpCase (restored_exp a) (restored_ty b) (restored_branches c)) (ExpRoll (restored_exp a) (restored_ty b)) (ExpUnroll (restored_exp a))
  restored_exp_what _ = no_exp_what

  pub restored_binds : Gv → Binds
  restored_binds (gcons (gnum n) (gcons a (gcons b z))) = pick2 n NoBinds (MoreBinds (restored_bind a) (restored_binds b))
  restored_binds _ = no_binds

  pub restored_decls : Gv → Decls
  restored_decls (gcons (gnum n) (gcons a (gcons b z))) = pick2 n NoDecls (MoreDecls (restored_decl a) (restored_decls b))
  restored_decls _ = no_decls

  pub restored_tys : Gv → TyExs
  restored_tys (gcons (gnum n) (gcons a (gcons b z))) = pick2 n NoTys (MoreTys (restored_ty a) (restored_tys b))
  restored_tys _ = no_tys

  pub restored_field_tys : Gv → FieldTyExs
  restored_field_tys (gcons (gnum n) (gcons a (gcons b (gcons c z)))) = pick2 n NoFieldTys (MoreFieldTys (restored_name a) (restored_ty b) (restored_field_tys c))
  restored_field_tys _ = no_field_tys

  pub restored_ops : Gv → OpExps
  restored_ops (gcons (gnum n) (gcons a (gcons b (gcons c z)))) = pick2 n NoOps (MoreOps (restored_op a) (restored_exp b) (restored_ops c))
  restored_ops _ = no_ops

  pub restored_args : Gv → Args
  restored_args (gcons (gnum n) (gcons a (gcons b z))) = pick2 n NoArgs (MoreArgs (restored_arg a) (restored_args b))
  restored_args _ = no_args

  pub restored_field_exps : Gv → FieldExps
  restored_field_exps (gcons (gnum n) (gcons a (gcons b (gcons c z)))) = pick2 n NoFieldExps (MoreFieldExps (restored_name a) (restored_exp b) (restored_field_exps c))
  restored_field_exps _ = no_field_exps

  pub restored_branches : Gv → Branches
  restored_branches (gcons (gnum n) (gcons a (gcons b (gcons c (gcons d z))))) = pick2 n NoBranches (MoreBranches (restored_name a) (restored_name b) (restored_exp c) (restored_branches d))
  restored_branches _ = no_branches

  pub restored_arg : Gv → Arg
  restored_arg (gcons (gnum n) (gcons a (gcons b z))) = pick2 n (ArgExp (restored_exp a)) (ArgTy (restored_ty a) (restored_span b))
  restored_arg _ = no_arg

mutual
  pub mod_again : (x : Mod) → restored_mod (stored_mod x) ≡ x
  mod_again (ModAt a b) = λ i. ModAt (span_again a i) (mod_what_again b i)

  pub mod_what_again : (x : ModWhat) → restored_mod_what (stored_mod_what x) ≡ x
  mod_what_again (ModName a) = λ i. ModName (name_again a i)
  mod_what_again (ModStruct a) = λ i. ModStruct (binds_again a i)
  mod_what_again (ModProject a b) = λ i. ModProject (mod_again a i) (name_again b i)
  mod_what_again (ModFunctor a b c d) = λ i. ModFunctor (truth_again a i) (name_again b i) (sig_again c i) (mod_again d i)
  mod_what_again (ModApply a b) = λ i. ModApply (name_again a i) (name_again b i)
  mod_what_again (ModSeal a b) = λ i. ModSeal (name_again a i) (sig_again b i)
  mod_what_again (ModUnpack a b) = λ i. ModUnpack (exp_again a i) (sig_again b i)

  pub bind_again : (x : Bind) → restored_bind (stored_bind x) ≡ x
  bind_again (BindAt a b) = λ i. BindAt (span_again a i) (bind_what_again b i)

  pub bind_what_again : (x : BindWhat) → restored_bind_what (stored_bind_what x) ≡ x
  bind_what_again (BindVal a b) = λ i. BindVal (name_again a i) (exp_again b i)
  bind_what_again (BindTy a b) = λ i. BindTy (name_again a i) (ty_again b i)
  bind_what_again (BindModule a b) = λ i. BindModule (name_again a i) (mod_again b i)
  bind_what_again (BindSignature a b) = λ i. BindSignature (name_again a i) (sig_again b i)
  bind_what_again (BindInclude a) = λ i. BindInclude (mod_again a i)

  pub sig_again : (x : SigEx) → restored_sig (stored_sig x) ≡ x
  sig_again (SigAt a b) = λ i. SigAt (span_again a i) (sig_what_again b i)

  pub sig_what_again : (x : SigWhat) → restored_sig_what (stored_sig_what x) ≡ x
  sig_what_again (PathSig a) = λ i. PathSig (mod_again a i)
  sig_what_again (SigDecls a) = λ i. SigDecls (decls_again a i)
  sig_what_again (SigFun a b c d) = λ i. SigFun (truth_again a i) (name_again b i) (sig_again c i) (sig_again d i)
  sig_what_again (SigRefine a b c d) = λ i. SigRefine (sig_again a i) (name_again b i) (names_again c i) (ty_again d i)

  pub decl_again : (x : Decl) → restored_decl (stored_decl x) ≡ x
  decl_again (DeclAt a b) = λ i. DeclAt (span_again a i) (decl_what_again b i)

  pub decl_what_again : (x : DeclWhat) → restored_decl_what (stored_decl_what x) ≡ x
  decl_what_again (DeclVal a b) = λ i. DeclVal (name_again a i) (ty_again b i)
  decl_what_again (DeclTyIs a b) = λ i. DeclTyIs (name_again a i) (ty_again b i)
  decl_what_again (DeclTyOf a b) = λ i. DeclTyOf (name_again a i) (kind_again b i)
  decl_what_again (DeclModule a b) = λ i. DeclModule (name_again a i) (sig_again b i)
  decl_what_again (DeclSignature a b) = λ i. DeclSignature (name_again a i) (sig_again b i)
  decl_what_again (DeclInclude a) = λ i. DeclInclude (sig_again a i)

  pub ty_again : (x : TyEx) → restored_ty (stored_ty x) ≡ x
  ty_again (TyAt a b) = λ i. TyAt (span_again a i) (ty_what_again b i)

  pub ty_what_again : (x : TyWhat) → restored_ty_what (stored_ty_what x) ≡ x
  ty_what_again (PathTy a) = λ i. PathTy (mod_again a i)
  ty_what_again TyInt = refl
  ty_what_again TyBool = refl
  ty_what_again TyText = refl
  ty_what_again (TyArrow a b) = λ i. TyArrow (ty_again a i) (ty_again b i)
  ty_what_again (TyApply a b) = λ i. TyApply (ty_again a i) (tys_again b i)
  ty_what_again (TyFields a) = λ i. TyFields (field_tys_again a i)
  ty_what_again (TyAll a b c) = λ i. TyAll (name_again a i) (kind_again b i) (ty_again c i)
  ty_what_again (TyLam a b c) = λ i. TyLam (name_again a i) (kind_again b i) (ty_again c i)
  ty_what_again (TyPack a) = λ i. TyPack (sig_again a i)
  ty_what_again (TySum a) = λ i. TySum (field_tys_again a i)
  ty_what_again (TyMu a b) = λ i. TyMu (name_again a i) (ty_again b i)

  pub exp_again : (x : Exp) → restored_exp (stored_exp x) ≡ x
  exp_again (ExpAt a b) = λ i. ExpAt (span_again a i) (exp_what_again b i)

  pub exp_what_again : (x : ExpWhat) → restored_exp_what (stored_exp_what x) ≡ x
  exp_what_again (PathExp a) = λ i. PathExp (mod_again a i)
  exp_what_again (ExpInt a) = λ i. ExpInt (int_again a i)
  exp_what_again (ExpBool a) = λ i. ExpBool (truth_again a i)
  exp_what_again (ExpText a) = λ i. ExpText (bytes_again a i)
  exp_what_again (ExpLam a b c) = λ i. ExpLam (name_again a i) (ty_again b i) (exp_again c i)
  exp_what_again (ExpTyLam a b c) = λ i. ExpTyLam (name_again a i) (kind_again b i) (exp_again c i)
  exp_what_again (ExpFix a b c d e) = λ i. ExpFix (name_again a i) (name_again b i) (ty_again c i) (ty_again d i) (exp_again e i)
  exp_what_again (ExpIf a b c) = λ i. ExpIf (exp_again a i) (exp_again b i) (exp_again c i)
  exp_what_again (ExpOps a b) = λ i. ExpOps (exp_again a i) (ops_again b i)
  exp_what_again (ExpApply a b) = λ i. ExpApply (exp_again a i) (args_again b i)
  exp_what_again (ExpFields a) = λ i. ExpFields (field_exps_again a i)
  exp_what_again (ExpGet a b) = λ i. ExpGet (exp_again a i) (name_again b i)
  exp_what_again (ExpPack a b) = λ i. ExpPack (name_again a i) (sig_again b i)
  exp_what_again (ExpInj a b c) = λ i. ExpInj (name_again a i) (exp_again b i) (ty_again c i)
  exp_what_again (ExpCase a b c) = λ i. ExpCase (exp_again a i) (ty_again b i) (branches_again c i)
  exp_what_again (ExpRoll a b) = λ i. ExpRoll (exp_again a i) (ty_again b i)
  exp_what_again (ExpUnroll a) = λ i. ExpUnroll (exp_again a i)

  pub binds_again : (x : Binds) → restored_binds (stored_binds x) ≡ x
  binds_again NoBinds = refl
  binds_again (MoreBinds a b) = λ i. MoreBinds (bind_again a i) (binds_again b i)

  pub decls_again : (x : Decls) → restored_decls (stored_decls x) ≡ x
  decls_again NoDecls = refl
  decls_again (MoreDecls a b) = λ i. MoreDecls (decl_again a i) (decls_again b i)

  pub tys_again : (x : TyExs) → restored_tys (stored_tys x) ≡ x
  tys_again NoTys = refl
  tys_again (MoreTys a b) = λ i. MoreTys (ty_again a i) (tys_again b i)

  pub field_tys_again : (x : FieldTyExs) → restored_field_tys (stored_field_tys x) ≡ x
  field_tys_again NoFieldTys = refl
  field_tys_again (MoreFieldTys a b c) = λ i. MoreFieldTys (name_again a i) (ty_again b i) (field_tys_again c i)

  pub ops_again : (x : OpExps) → restored_ops (stored_ops x) ≡ x
  ops_again NoOps = refl
  ops_again (MoreOps a b c) = λ i. MoreOps (op_again a i) (exp_again b i) (ops_again c i)

  pub args_again : (x : Args) → restored_args (stored_args x) ≡ x
  args_again NoArgs = refl
  args_again (MoreArgs a b) = λ i. MoreArgs (arg_again a i) (args_again b i)

  pub field_exps_again : (x : FieldExps) → restored_field_exps (stored_field_exps x) ≡ x
  field_exps_again NoFieldExps = refl
  field_exps_again (MoreFieldExps a b c) = λ i. MoreFieldExps (name_again a i) (exp_again b i) (field_exps_again c i)

  pub branches_again : (x : Branches) → restored_branches (stored_branches x) ≡ x
  branches_again NoBranches = refl
  branches_again (MoreBranches a b c d) = λ i. MoreBranches (name_again a i) (name_again b i) (exp_again c i) (branches_again d i)

  pub arg_again : (x : Arg) → restored_arg (stored_arg x) ≡ x
  arg_again (ArgExp a) = λ i. ArgExp (exp_again a i)
  arg_again (ArgTy a b) = λ i. ArgTy (ty_again a i) (span_again b i)

abbrev pub mod_code : Coded Mod
mod_code = code_by Gv itself stored_mod restored_mod mod_again

abbrev pub bind_code : Coded Bind
bind_code = code_by Gv itself stored_bind restored_bind bind_again

abbrev pub sig_code : Coded SigEx
sig_code = code_by Gv itself stored_sig restored_sig sig_again

abbrev pub decl_code : Coded Decl
decl_code = code_by Gv itself stored_decl restored_decl decl_again

abbrev pub ty_code : Coded TyEx
ty_code = code_by Gv itself stored_ty restored_ty ty_again

abbrev pub exp_code : Coded Exp
exp_code = code_by Gv itself stored_exp restored_exp exp_again

abbrev pub binds_code : Coded Binds
binds_code = code_by Gv itself stored_binds restored_binds binds_again
