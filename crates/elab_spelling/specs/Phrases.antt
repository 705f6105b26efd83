-- Programs whose names, numbers and texts have a spelling: each name may stand as a label in the text of System Fω, as source
-- names and the hidden names of derived forms may, each number is one of 64 bits, and each text has bytes that a text may have.
-- Sums and recursive types, and the expressions of both, stand in the second version only.
use Rattle.std.specs.Prelude.{◌≡◌, List, [], ◌∷◌, true}
use Rattle.omega_terms.specs.declared.version.Version.{Version}
use Rattle.omega_terms.specs.declared.version.Version.TheVariants.{Second}
use Rattle.omega_spelling.specs.TermReading.{SignedFits, all_spelled}
use Rattle.fing_syntax.specs.Phrase
use Rattle.fing_syntax.specs.Phrase.{SpanName}
use Rattle.fing_syntax.specs.Place.{name_of}
use Rattle.elab_spelling.specs.Signatures.{NameSpelled}

abbrev pub LeafSpelled : SpanName → Type 0
LeafSpelled x = NameSpelled (name_of x)

abbrev pub LeavesSpelled : List SpanName → Type 0
LeavesSpelled [] = Unit {0}
LeavesSpelled (x ∷ xs) = LeafSpelled x × LeavesSpelled xs

abbrev mutual
  pub ModSpelled : Version → Phrase.Mod → Type 0
  ModSpelled v (Phrase.ModAt at what) = ModWhatSpelled v what

  pub ModWhatSpelled : Version → Phrase.ModWhat → Type 0
  ModWhatSpelled v (Phrase.ModName x) = LeafSpelled x
  ModWhatSpelled v (Phrase.ModStruct bs) = BindsSpelled v bs
  ModWhatSpelled v (Phrase.ModProject m x) = ModSpelled v m × LeafSpelled x
  ModWhatSpelled v (Phrase.ModFunctor gen x s m) = LeafSpelled x × SigExSpelled v s × ModSpelled v m
  ModWhatSpelled v (Phrase.ModApply x y) = LeafSpelled x × LeafSpelled y
  ModWhatSpelled v (Phrase.ModSeal x s) = LeafSpelled x × SigExSpelled v s
  ModWhatSpelled v (Phrase.ModUnpack e s) = ExpSpelled v e × SigExSpelled v s

  pub BindSpelled : Version → Phrase.Bind → Type 0
  BindSpelled v (Phrase.BindAt at what) = BindWhatSpelled v what

  pub BindWhatSpelled : Version → Phrase.BindWhat → Type 0
  BindWhatSpelled v (Phrase.BindVal x e) = LeafSpelled x × ExpSpelled v e
  BindWhatSpelled v (Phrase.BindTy x t) = LeafSpelled x × TyExSpelled v t
  BindWhatSpelled v (Phrase.BindModule x m) = LeafSpelled x × ModSpelled v m
  BindWhatSpelled v (Phrase.BindSignature x s) = LeafSpelled x × SigExSpelled v s
  BindWhatSpelled v (Phrase.BindInclude m) = ModSpelled v m

  pub BindsSpelled : Version → Phrase.Binds → Type 0
  BindsSpelled v Phrase.NoBinds = Unit {0}
  BindsSpelled v (Phrase.MoreBinds b bs) = BindSpelled v b × BindsSpelled v bs

  pub SigExSpelled : Version → Phrase.SigEx → Type 0
  SigExSpelled v (Phrase.SigAt at what) = SigWhatSpelled v what

  pub SigWhatSpelled : Version → Phrase.SigWhat → Type 0
  SigWhatSpelled v (Phrase.PathSig m) = ModSpelled v m
  SigWhatSpelled v (Phrase.SigDecls ds) = DeclsSpelled v ds
  SigWhatSpelled v (Phrase.SigFun pure x s r) = LeafSpelled x × SigExSpelled v s × SigExSpelled v r
  SigWhatSpelled v (Phrase.SigRefine s x rest t) = SigExSpelled v s × LeavesSpelled (x ∷ rest) × TyExSpelled v t

  pub DeclSpelled : Version → Phrase.Decl → Type 0
  DeclSpelled v (Phrase.DeclAt at what) = DeclWhatSpelled v what

  pub DeclWhatSpelled : Version → Phrase.DeclWhat → Type 0
  DeclWhatSpelled v (Phrase.DeclVal x t) = LeafSpelled x × TyExSpelled v t
  DeclWhatSpelled v (Phrase.DeclTyIs x t) = LeafSpelled x × TyExSpelled v t
  DeclWhatSpelled v (Phrase.DeclTyOf x k) = LeafSpelled x
  DeclWhatSpelled v (Phrase.DeclModule x s) = LeafSpelled x × SigExSpelled v s
  DeclWhatSpelled v (Phrase.DeclSignature x s) = LeafSpelled x × SigExSpelled v s
  DeclWhatSpelled v (Phrase.DeclInclude s) = SigExSpelled v s

  pub DeclsSpelled : Version → Phrase.Decls → Type 0
  DeclsSpelled v Phrase.NoDecls = Unit {0}
  DeclsSpelled v (Phrase.MoreDecls d ds) = DeclSpelled v d × DeclsSpelled v ds

  pub TyExSpelled : Version → Phrase.TyEx → Type 0
  TyExSpelled v (Phrase.TyAt at what) = TyWhatSpelled v what

  pub TyWhatSpelled : Version → Phrase.TyWhat → Type 0
  TyWhatSpelled v (Phrase.PathTy m) = ModSpelled v m
  TyWhatSpelled v Phrase.TyInt = Unit {0}
  TyWhatSpelled v Phrase.TyBool = Unit {0}
  TyWhatSpelled v Phrase.TyText = Unit {0}
  TyWhatSpelled v (Phrase.TyArrow a b) = TyExSpelled v a × TyExSpelled v b
  TyWhatSpelled v (Phrase.TyApply a rest) = TyExSpelled v a × TyExsSpelled v rest
  TyWhatSpelled v (Phrase.TyFields fields) = FieldTyExsSpelled v fields
  TyWhatSpelled v (Phrase.TyAll x k b) = LeafSpelled x × TyExSpelled v b
  TyWhatSpelled v (Phrase.TyLam x k b) = LeafSpelled x × TyExSpelled v b
  TyWhatSpelled v (Phrase.TyPack s) = SigExSpelled v s
  TyWhatSpelled v (Phrase.TySum labels) = (v ≡ Second) × FieldTyExsSpelled v labels
  TyWhatSpelled v (Phrase.TyMu x b) = (v ≡ Second) × LeafSpelled x × TyExSpelled v b

  pub TyExsSpelled : Version → Phrase.TyExs → Type 0
  TyExsSpelled v Phrase.NoTys = Unit {0}
  TyExsSpelled v (Phrase.MoreTys t rest) = TyExSpelled v t × TyExsSpelled v rest

  pub FieldTyExsSpelled : Version → Phrase.FieldTyExs → Type 0
  FieldTyExsSpelled v Phrase.NoFieldTys = Unit {0}
  FieldTyExsSpelled v (Phrase.MoreFieldTys x t rest) = LeafSpelled x × TyExSpelled v t × FieldTyExsSpelled v rest

  pub ExpSpelled : Version → Phrase.Exp → Type 0
  ExpSpelled v (Phrase.ExpAt at what) = ExpWhatSpelled v what

  pub ExpWhatSpelled : Version → Phrase.ExpWhat → Type 0
  ExpWhatSpelled v (Phrase.PathExp m) = ModSpelled v m
  ExpWhatSpelled v (Phrase.ExpInt z) = SignedFits z
  ExpWhatSpelled v (Phrase.ExpBool b) = Unit {0}
  ExpWhatSpelled v (Phrase.ExpText bytes) = all_spelled bytes ≡ true
  ExpWhatSpelled v (Phrase.ExpLam x t e) = LeafSpelled x × TyExSpelled v t × ExpSpelled v e
  ExpWhatSpelled v (Phrase.ExpTyLam x k e) = LeafSpelled x × ExpSpelled v e
  ExpWhatSpelled v (Phrase.ExpFix f x t u e) = LeavesSpelled (f ∷ x ∷ []) × TyExSpelled v t × TyExSpelled v u × ExpSpelled v e
  ExpWhatSpelled v (Phrase.ExpIf a b c) = ExpSpelled v a × ExpSpelled v b × ExpSpelled v c
  ExpWhatSpelled v (Phrase.ExpOps a rest) = ExpSpelled v a × OpExpsSpelled v rest
  ExpWhatSpelled v (Phrase.ExpApply f args) = ExpSpelled v f × ArgsSpelled v args
  ExpWhatSpelled v (Phrase.ExpFields fields) = FieldExpsSpelled v fields
  ExpWhatSpelled v (Phrase.ExpGet e x) = ExpSpelled v e × LeafSpelled x
  ExpWhatSpelled v (Phrase.ExpPack x s) = LeafSpelled x × SigExSpelled v s
  ExpWhatSpelled v (Phrase.ExpInj x e t) = (v ≡ Second) × LeafSpelled x × ExpSpelled v e × TyExSpelled v t
  ExpWhatSpelled v (Phrase.ExpCase e t bs) = (v ≡ Second) × ExpSpelled v e × TyExSpelled v t × BranchesSpelled v bs
  ExpWhatSpelled v (Phrase.ExpRoll e t) = (v ≡ Second) × ExpSpelled v e × TyExSpelled v t
  ExpWhatSpelled v (Phrase.ExpUnroll e) = (v ≡ Second) × ExpSpelled v e

  pub OpExpsSpelled : Version → Phrase.OpExps → Type 0
  OpExpsSpelled v Phrase.NoOps = Unit {0}
  OpExpsSpelled v (Phrase.MoreOps op e rest) = ExpSpelled v e × OpExpsSpelled v rest

  pub ArgSpelled : Version → Phrase.Arg → Type 0
  ArgSpelled v (Phrase.ArgExp e) = ExpSpelled v e
  ArgSpelled v (Phrase.ArgTy t at) = TyExSpelled v t

  pub ArgsSpelled : Version → Phrase.Args → Type 0
  ArgsSpelled v Phrase.NoArgs = Unit {0}
  ArgsSpelled v (Phrase.MoreArgs a rest) = ArgSpelled v a × ArgsSpelled v rest

  pub FieldExpsSpelled : Version → Phrase.FieldExps → Type 0
  FieldExpsSpelled v Phrase.NoFieldExps = Unit {0}
  FieldExpsSpelled v (Phrase.MoreFieldExps x e rest) = LeafSpelled x × ExpSpelled v e × FieldExpsSpelled v rest

  pub BranchesSpelled : Version → Phrase.Branches → Type 0
  BranchesSpelled v Phrase.NoBranches = Unit {0}
  BranchesSpelled v (Phrase.MoreBranches x y e rest) = LeafSpelled x × LeafSpelled y × ExpSpelled v e × BranchesSpelled v rest
