-- How large a phrase is: its nodes and the items of its lists.
use Rattle.std.specs.Prelude.{ℕ, ◌+◌}
use Rattle.fing_syntax.specs.Phrase.{Mod, ModWhat, Bind, BindWhat, SigEx, SigWhat, Decl, DeclWhat, TyEx, TyWhat, Exp, ExpWhat, Binds, Decls, TyExs, FieldTyExs, OpExps, Args, FieldExps, Arg, Branches, ModAt, ModName, ModStruct, ModProject, ModFunctor, ModApply, ModSeal, ModUnpack, BindAt, BindVal, BindTy, BindModule, BindSignature, BindInclude, SigAt, PathSig, SigDecls, SigFun, SigRefine, DeclAt, DeclVal, DeclTyIs, DeclTyOf, DeclModule, DeclSignature, DeclInclude, TyAt, PathTy, TyInt, TyBool, TyText, TyArrow, TyApply, TyFields, TyAll, TyLam, TyPack, TySum, TyMu, ExpAt, PathExp, ExpInt, ExpBool, ExpText, ExpLam, ExpTyLam, ExpFix, ExpIf, ExpOps, ExpApply, ExpFields, ExpGet, ExpPack, ExpInj, ExpCase, ExpRoll, ExpUnroll, NoBinds, MoreBinds, NoDecls, MoreDecls, NoTys, MoreTys, NoFieldTys, MoreFieldTys, NoOps, MoreOps, NoArgs, MoreArgs, NoFieldExps, MoreFieldExps, NoBranches, MoreBranches, ArgExp, ArgTy}

abbrev mutual
  pub mod_size : Mod → ℕ
  mod_size (ModAt a b) = mod_what_size b

  pub mod_what_size : ModWhat → ℕ
  mod_what_size (ModName a) = 1
  mod_what_size (ModStruct a) = binds_size a + 1
  mod_what_size (ModProject a b) = mod_size a + 1
  mod_what_size (ModFunctor a b c d) = sig_size c + mod_size d + 1
  mod_what_size (ModApply a b) = 1
  mod_what_size (ModSeal a b) = sig_size b + 1
  mod_what_size (ModUnpack a b) = exp_size a + sig_size b + 1

  pub bind_size : Bind → ℕ
  bind_size (BindAt a b) = bind_what_size b

  pub bind_what_size : BindWhat → ℕ
  bind_what_size (BindVal a b) = exp_size b + 1
  bind_what_size (BindTy a b) = ty_size b + 1
  bind_what_size (BindModule a b) = mod_size b + 1
  bind_what_size (BindSignature a b) = sig_size b + 1
  bind_what_size (BindInclude a) = mod_size a + 1

  pub sig_size : SigEx → ℕ
  sig_size (SigAt a b) = sig_what_size b

  pub sig_what_size : SigWhat → ℕ
  sig_what_size (PathSig a) = mod_size a + 1
  sig_what_size (SigDecls a) = decls_size a + 1
  sig_what_size (SigFun a b c d) = sig_size c + sig_size d + 1
  sig_what_size (SigRefine a b c d) = sig_size a + ty_size d + 1

  pub decl_size : Decl → ℕ
  decl_size (DeclAt a b) = decl_what_size b

  pub decl_what_size : DeclWhat → ℕ
  decl_what_size (DeclVal a b) = ty_size b + 1
  decl_what_size (DeclTyIs a b) = ty_size b + 1
  decl_what_size (DeclTyOf a b) = 1
  decl_what_size (DeclModule a b) = sig_size b + 1
  decl_what_size (DeclSignature a b) = sig_size b + 1
  decl_what_size (DeclInclude a) = sig_size a + 1

  pub ty_size : TyEx → ℕ
  ty_size (TyAt a b) = ty_what_size b

  pub ty_what_size : TyWhat → ℕ
  ty_what_size (PathTy a) = mod_size a + 1
  ty_what_size TyInt = 1
  ty_what_size TyBool = 1
  ty_what_size TyText = 1
  ty_what_size (TyArrow a b) = ty_size a + ty_size b + 1
  ty_what_size (TyApply a b) = ty_size a + tys_size b + 1
  ty_what_size (TyFields a) = field_tys_size a + 1
  ty_what_size (TyAll a b c) = ty_size c + 1
  ty_what_size (TyLam a b c) = ty_size c + 1
  ty_what_size (TyPack a) = sig_size a + 1
  ty_what_size (TySum a) = field_tys_size a + 1
  ty_what_size (TyMu a b) = ty_size b + 1

  pub exp_size : Exp → ℕ
  exp_size (ExpAt a b) = exp_what_size b

  pub exp_what_size : ExpWhat → ℕ
  exp_what_size (PathExp a) = mod_size a + 1
  exp_what_size (ExpInt a) = 1
  exp_what_size (ExpBool a) = 1
  exp_what_size (ExpText a) = 1
  exp_what_size (ExpLam a b c) = ty_size b + exp_size c + 1
  exp_what_size (ExpTyLam a b c) = exp_size c + 1
  exp_what_size (ExpFix a b c d e) = ty_size c + ty_size d + exp_size e + 1
  exp_what_size (ExpIf a b c) = exp_size a + exp_size b + exp_size c + 1
  exp_what_size (ExpOps a b) = exp_size a + ops_size b + 1
  exp_what_size (ExpApply a b) = exp_size a + args_size b + 1
  exp_what_size (ExpFields a) = field_exps_size a + 1
  exp_what_size (ExpGet a b) = exp_size a + 1
  exp_what_size (ExpPack a b) = sig_size b + 1
  exp_what_size (ExpInj a b c) = exp_size b + ty_size c + 1
  exp_what_size (ExpCase a b c) = exp_size a + ty_size b + branches_size c + 1
  exp_what_size (ExpRoll a b) = exp_size a + ty_size b + 1
  exp_what_size (ExpUnroll a) = exp_size a + 1

  pub binds_size : Binds → ℕ
  binds_size NoBinds = 0
  binds_size (MoreBinds a b) = bind_size a + binds_size b + 1

  pub decls_size : Decls → ℕ
  decls_size NoDecls = 0
  decls_size (MoreDecls a b) = decl_size a + decls_size b + 1

  pub tys_size : TyExs → ℕ
  tys_size NoTys = 0
  tys_size (MoreTys a b) = ty_size a + tys_size b + 1

  pub field_tys_size : FieldTyExs → ℕ
  field_tys_size NoFieldTys = 0
  field_tys_size (MoreFieldTys a b c) = ty_size b + field_tys_size c + 1

  pub ops_size : OpExps → ℕ
  ops_size NoOps = 0
  ops_size (MoreOps a b c) = exp_size b + ops_size c + 1

  pub args_size : Args → ℕ
  args_size NoArgs = 0
  args_size (MoreArgs a b) = arg_size a + args_size b + 1

  pub field_exps_size : FieldExps → ℕ
  field_exps_size NoFieldExps = 0
  field_exps_size (MoreFieldExps a b c) = exp_size b + field_exps_size c + 1

  pub branches_size : Branches → ℕ
  branches_size NoBranches = 0
  branches_size (MoreBranches a b c d) = exp_size c + branches_size d + 1

  pub arg_size : Arg → ℕ
  arg_size (ArgExp a) = exp_size a + 1
  arg_size (ArgTy a b) = ty_size a + 1
