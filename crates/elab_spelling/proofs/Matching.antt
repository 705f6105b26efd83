-- A match between legible signatures finds legible types and has a legible coercion: the functions of matching make nothing
-- else, and they find what there is.
-- Main results: match-legible.
use Rattle.std.specs.Prelude.{◌≡◌, ℕ, zero, suc, ◌+◌, List, [], ◌∷◌, ◌++◌, Option, Some, None, length}
use Rattle.std.proofs.Math.Path.{refl, subst}
use Rattle.omega_kinds.specs.Kind.{Kind, Kind-discrete}
use Rattle.omega_kinds.specs.declared.label.Label.{Label}
use Rattle.omega_kinds.specs.declared.effect.Effect.{Effect}
use Rattle.omega_kinds.specs.declared.effect.Effect.TheVariants.{Pure, Impure}
use Rattle.omega_kinds.specs.Name.{Name}
use Rattle.omega_kinds.proofs.NameLaws.{dec_name}
use Rattle.omega_types.specs.Ty.{Ty}
use Rattle.omega_types.specs.Normaliser.{hsubst}
use Rattle.omega_types.specs.Binders.{extend, past, raise}
use Rattle.omega_terms.specs.declared.version.Version.{Version}
use Rattle.omega_terms.specs.Term.{Term, TermRow}
use Rattle.omega_terms.specs.Coercions.{same_part, meta_part, functor_part}
use Rattle.sig_definitions.specs.Signatures.Sig.{Sig, Abs, SigRow}
use Rattle.sig_definitions.specs.Signatures.SigSubst.{raise_abs, sig_at, sig_at_under, abs_at_under}
use Rattle.sig_definitions.specs.Signatures.SigSize.{size, size_abs}
use Rattle.sig_definitions.specs.Signatures.Encoding.{enc, enc_abs}
use Rattle.sig_definitions.specs.Explicit.SigPath.{SigPath, Item}
use Rattle.sig_definitions.specs.Matching.MatchRefusal.{MatchRefusal, Types, clash}
use Rattle.sig_definitions.specs.Matching.Subtyping.{Match}
use Rattle.sig_laws.specs.NormalSig.{normal_sig, normal_abs}
use Rattle.sig_laws.specs.Decide.{dec_ty}
use Rattle.sig_laws.specs.Good.{OkSig, OkRight}
use Rattle.sig_match_laws.specs.RootSearch.{least_root}
use Rattle.sig_match_laws.specs.MatchFunction.{Outcome, FieldsOutcome, MatchOutcome, Lookings, all_found, stopped_at, SubFn, AbsFn, MatchFn, Fns, this_or}
use Rattle.sig_match_laws.specs.MatchFunction.{find_field, any_type, any_types, look_end, look_field, lam_found, look_result, look, go_on, look_along, look_all}
use Rattle.sig_match_laws.specs.MatchFunction.{with_types, compare_all, match_step, pack_up, plain_up, hidden_up, abs_step, where_same, where_both_same}
use Rattle.sig_match_laws.specs.MatchFunction.{both_ways, part_then, field_then, fields_step, fields_up, result_step, result_up, param_up, where_may, sub_step}
use Rattle.sig_match_laws.specs.MatchFunction.{fns}
use Rattle.sig_match_laws.proofs.Theorems.{match_sig_gives}
use Rattle.elab_spelling.specs.Legible.{TyLegible, TypesLegible, TermLegible, TermRowLegible}
use Rattle.elab_spelling.specs.Signatures.{SigLegible, AbsLegible, FieldsLegible}
use Rattle.elab_spelling.proofs.Types.{rename-legible, hsubst-legible, lam_over-legible}
use Rattle.elab_spelling.proofs.Terms.{opens-legible, coerced-legible, functor_part-legible}
use Rattle.elab_spelling.proofs.Signatures.{rename_abs-legible, sig_at-legible, abs_at-legible, normal_sig-legible, normal_abs-legible, enc-legible}
use Rattle.elab_spelling.proofs.Signatures.{enc_abs-legible}

module _ (v : Version) where
  -- what the functions come to

  abbrev OutcomeLegible : Outcome → Type 0
  OutcomeLegible (Outcome.coerced f) = TermLegible v f
  OutcomeLegible (Outcome.refused q) = Unit {0}

  abbrev PartsLegible : Option Label → FieldsOutcome → Type 0
  PartsLegible last (FieldsOutcome.parts f) = TermRowLegible v last f
  PartsLegible last (FieldsOutcome.refused q) = Unit {0}

  abbrev MatchedLegible : MatchOutcome → Type 0
  MatchedLegible (MatchOutcome.matched ts f) = TypesLegible v ts × TermLegible v f
  MatchedLegible (MatchOutcome.refused q) = Unit {0}

  abbrev FoundLegible : Option Ty → Type 0
  FoundLegible None = Unit {0}
  FoundLegible (Some t) = TyLegible v t

  abbrev PartLegible : Option Sig → Type 0
  PartLegible None = Unit {0}
  PartLegible (Some s) = SigLegible v s

  abbrev LookingsLegible : Lookings → Type 0
  LookingsLegible (all_found ts) = TypesLegible v ts
  LookingsLegible (stopped_at number p) = Unit {0}

  abbrev SubKeeps : SubFn → Type 0
  SubKeeps f = (ctx : List Kind) (s r : Sig) → SigLegible v s → SigLegible v r → OutcomeLegible (f ctx s r)

  abbrev AbsKeeps : AbsFn → Type 0
  AbsKeeps f = (ctx : List Kind) (x y : Abs) → AbsLegible v x → AbsLegible v y → OutcomeLegible (f ctx x y)

  abbrev MatchKeeps : MatchFn → Type 0
  MatchKeeps f = (ctx : List Kind) (s : Sig) (x : Abs) → SigLegible v s → AbsLegible v x → MatchedLegible (f ctx s x)

  abbrev FnsKeep : Fns → Type 0
  FnsKeep F = SubKeeps F.0 × AbsKeeps F.1 × MatchKeeps F.2

  -- looking up along a path

  this_or-legible : {l m : Name} (d : Dec (l ≡ m)) (s : Sig) (q : Option Sig) → SigLegible v s → PartLegible q → PartLegible (this_or d s q)
  this_or-legible (yes e) s q h g = h
  this_or-legible (no n) s q h g = g

  find_field-legible : (l : Name) (last : Option Label) (fs : SigRow) → FieldsLegible v last fs → PartLegible (find_field l fs)
  find_field-legible l last SigRow.End h = tt
  find_field-legible l last (SigRow.More m s rest) h = this_or-legible (dec_name l m) s (find_field l rest) h.2
      (find_field-legible l (Some (Label.Name m)) rest h.3)

  look_end-legible : {k j : Kind} (d : Dec (k ≡ j)) (t : Ty) → TyLegible v t → FoundLegible (look_end d t)
  look_end-legible (yes e) t h = h
  look_end-legible (no n) t h = tt

  look_field-legible : (a b : Option Sig) (f : Sig → Sig → Option Ty) → PartLegible a → PartLegible b
      → ((s r : Sig) → SigLegible v s → SigLegible v r → FoundLegible (f s r)) → FoundLegible (look_field a b f)
  look_field-legible (Some s) (Some r) f h g k = k s r h g
  look_field-legible (Some s) None f h g k = tt
  look_field-legible None b f h g k = tt

  lam_found-legible : (ks : List Kind) (o : Option Ty) → FoundLegible o → FoundLegible (lam_found ks o)
  lam_found-legible ks None h = tt
  lam_found-legible ks (Some t) h = lam_over-legible v ks t h

  look_result-legible : (js : List Kind) (o : MatchOutcome) (f : List Ty → Option Ty) → MatchedLegible o
      → ((ts : List Ty) → TypesLegible v ts → FoundLegible (f ts)) → FoundLegible (look_result js o f)
  look_result-legible js (MatchOutcome.refused q) f h k = tt
  look_result-legible js (MatchOutcome.matched ts g) f h k = lam_found-legible js (f ts) (k ts h.0)

  look-legible : (m : MatchFn) → MatchKeeps m → (ctx : List Kind) (s : Sig) (p : SigPath) (r : Sig) → SigLegible v s → SigLegible v r
      → FoundLegible (look m ctx s p r)
  look-legible m k ctx (Sig.Typ t i) [] (Sig.Typ u j) h g = look_end-legible (Kind-discrete i j) t h
  look-legible m k ctx (Sig.Str fs) (Item.Part l ∷ p) (Sig.Str gs) h g =
      look_field-legible (find_field l fs) (find_field l gs) (λ s r. look m ctx s p r) (find_field-legible l None fs h) (find_field-legible l None gs g)
      (λ s r a b. look-legible m k ctx s p r a b)
  look-legible m k ctx (Sig.Fun Pure ks a (Abs.Ex [] s)) (Item.Res ∷ p) (Sig.Fun Pure js b (Abs.Ex [] r)) h g =
      look_result-legible js (m (extend ctx js) b (raise_abs js (Abs.Ex ks a)))
      (λ ts. look m (extend ctx js) (normal_sig (extend ctx js) (sig_at_under js ts s)) p r)
      (k (extend ctx js) b (raise_abs js (Abs.Ex ks a)) g.0 (rename_abs-legible v (past js) (Abs.Ex ks a) h.0))
      (λ ts f. look-legible m k (extend ctx js) (normal_sig (extend ctx js) (sig_at_under js ts s)) p r
      (normal_sig-legible v (extend ctx js) (sig_at_under js ts s) (sig_at-legible v ts (past js) s f h.1)) g.1)
  look-legible m k ctx s p r h g = tt

  -- all variables in order

  any_type-legible : (k : Kind) → TyLegible v (any_type k)
  any_type-legible Kind.Star = tt
  any_type-legible (Kind.Arrow k l) = any_type-legible l

  any_types-legible : (ks : List Kind) → TypesLegible v (any_types ks)
  any_types-legible [] = tt
  any_types-legible (k ∷ ks) = (any_type-legible k, any_types-legible ks)

  -- two lists of legible types are legible in a row
  pub append-legible : (ts us : List Ty) → TypesLegible v ts → TypesLegible v us → TypesLegible v (ts ++ us)
  append-legible [] us h g = g
  append-legible (t ∷ ts) us h g = (h.0, append-legible ts us h.1 g)

  go_on-legible : (number : ℕ) (p : SigPath) (o : Option Ty) (f : Ty → Lookings) → FoundLegible o → ((t : Ty) → TyLegible v t → LookingsLegible (f t))
      → LookingsLegible (go_on number p o f)
  go_on-legible number p None f h k = tt
  go_on-legible number p (Some t) f h k = k t h

  look_along-legible : (number : ℕ) (o : Option SigPath) (look_at : SigPath → Option Ty) (f : Ty → Lookings) → ((p : SigPath) → FoundLegible (look_at p))
      → ((t : Ty) → TyLegible v t → LookingsLegible (f t)) → LookingsLegible (look_along number o look_at f)
  look_along-legible number None look_at f h k = tt
  look_along-legible number (Some p) look_at f h k = go_on-legible number p (look_at p) f (h p) k

  look_all-legible : (m : MatchFn) → MatchKeeps m → (ctx : List Kind) (s : Sig) (ks : List Kind) (r : Sig) (before : List Ty) (left : List Kind)
      → SigLegible v s → SigLegible v r → TypesLegible v before → LookingsLegible (look_all m ctx s ks r before left)
  look_all-legible m k ctx s ks r before [] h g b = b
  look_all-legible m k ctx s ks r before (j ∷ more) h g b =
      let ts = before ++ any_types (j ∷ more) in
      let at : SigLegible v (normal_sig ctx (sig_at ts r)) = normal_sig-legible v ctx (sig_at ts r)
      (sig_at-legible v ts (λ i. i) r (append-legible before (any_types (j ∷ more)) b (any_types-legible (j ∷ more))) g) in
      look_along-legible (length before) (least_root ctx ks r (length before)) (λ p. look m ctx s p (normal_sig ctx (sig_at ts r)))
      (λ t. look_all m ctx s ks r (before ++ (t ∷ [])) more)
      (λ p. look-legible m k ctx s p (normal_sig ctx (sig_at ts r)) h at)
      (λ t f. look_all-legible m k ctx s ks r (before ++ (t ∷ [])) more h g (append-legible before (t ∷ []) b (f, tt)))

  -- matching

  with_types-legible : (ts : List Ty) (o : Outcome) → TypesLegible v ts → OutcomeLegible o → MatchedLegible (with_types ts o)
  with_types-legible ts (Outcome.coerced f) h g = (h, g)
  with_types-legible ts (Outcome.refused q) h g = tt

  compare_all-legible : (sub : SubFn) → SubKeeps sub → (ctx : List Kind) (s r : Sig) (o : Lookings) → SigLegible v s → SigLegible v r → LookingsLegible o
      → MatchedLegible (compare_all sub ctx s r o)
  compare_all-legible sub k ctx s r (stopped_at number p) h g f = tt
  compare_all-legible sub k ctx s r (all_found ts) h g f =
      with_types-legible ts (sub ctx s (normal_sig ctx (sig_at ts r))) f
      (k ctx s (normal_sig ctx (sig_at ts r)) h (normal_sig-legible v ctx (sig_at ts r) (sig_at-legible v ts (λ i. i) r f g)))

  match_step-keeps : (F : Fns) → FnsKeep F → MatchKeeps (match_step F)
  match_step-keeps F k ctx s (Abs.Ex ks r) h g = compare_all-legible F.0 k.0 ctx s r (look_all F.2 ctx s ks r [] ks) h g
      (look_all-legible F.2 k.2 ctx s ks r [] ks h g tt)

  -- signatures that hide types

  pack_up-legible : (ts : List Ty) (e : Term) (u : Ty) → TypesLegible v ts → TermLegible v e → TyLegible v u → TermLegible v (pack_up ts e u)
  pack_up-legible [] e u g h f = h
  pack_up-legible (t ∷ ts) e (Ty.Ex k body) g h f = (g.0, pack_up-legible ts e (hsubst k zero t body) g.1 h (hsubst-legible v k zero t body g.0 f), f)
  pack_up-legible (t ∷ ts) e u g h f = h

  plain_up-legible : (from to : Ty) (o : MatchOutcome) → TyLegible v from → TyLegible v to → MatchedLegible o → OutcomeLegible (plain_up from to o)
  plain_up-legible from to (MatchOutcome.refused q) a b h = tt
  plain_up-legible from to (MatchOutcome.matched ts f) a b h = (a, pack_up-legible ts (Term.Call f (Term.Var zero)) to h.0 (h.1, tt) b)

  hidden_up-legible : (from : Ty) (ks : List Kind) (to : Ty) (o : MatchOutcome) → TyLegible v from → TyLegible v to → MatchedLegible o
      → OutcomeLegible (hidden_up from ks to o)
  hidden_up-legible from ks to (MatchOutcome.refused q) a b h = tt
  hidden_up-legible from ks to (MatchOutcome.matched ts f) a b h = (
    a,
    opens-legible v ks (Term.Var zero) from (pack_up ts (Term.Call f (Term.Var zero)) to) tt a
        (pack_up-legible ts (Term.Call f (Term.Var zero)) to h.0 (h.1, tt) b),
  )

  abs_step-keeps : (F : Fns) → FnsKeep F → AbsKeeps (abs_step F)
  abs_step-keeps F k ctx (Abs.Ex [] s) y h g = plain_up-legible (enc s) (enc_abs y) (F.2 ctx s y) (enc-legible v s h) (enc_abs-legible v y g) (k.2 ctx s y h g)
  abs_step-keeps F k ctx (Abs.Ex (j ∷ ks) s) y h g =
      hidden_up-legible (enc_abs (Abs.Ex (j ∷ ks) s)) (j ∷ ks) (raise (j ∷ ks) (enc_abs y)) (F.2 (extend ctx (j ∷ ks)) s (raise_abs (j ∷ ks) y))
      (enc_abs-legible v (Abs.Ex (j ∷ ks) s) h) (rename-legible v (past (j ∷ ks)) (enc_abs y) (enc_abs-legible v y g))
      (k.2 (extend ctx (j ∷ ks)) s (raise_abs (j ∷ ks) y) h (rename_abs-legible v (past (j ∷ ks)) y g))

  -- subtyping

  where_same-legible : {A : Type 0} (d : Dec A) (f : Term) (q : MatchRefusal) → TermLegible v f → OutcomeLegible (where_same d f q)
  where_same-legible (yes a) f q h = h
  where_same-legible (no n) f q h = tt

  where_both_same-legible : {A B : Type 0} (d : Dec A) (c : Dec B) (f : Term) (q : MatchRefusal) → TermLegible v f → OutcomeLegible (where_both_same d c f q)
  where_both_same-legible (yes a) c f q h = where_same-legible c f q h
  where_both_same-legible (no n) c f q h = tt

  both_ways-legible : (f : Term) (o p : Outcome) → TermLegible v f → OutcomeLegible (both_ways f o p)
  both_ways-legible f (Outcome.refused q) p h = tt
  both_ways-legible f (Outcome.coerced g) (Outcome.refused q) h = tt
  both_ways-legible f (Outcome.coerced g) (Outcome.coerced d) h = h

  part_then-legible : (last : Option Label) (l : Name) (o : Outcome) (rest : FieldsOutcome)
      → ((f : Term) (row : TermRow) → TermLegible v f → TermRowLegible v (Some (Label.Name l)) row → TermRowLegible v last (TermRow.More (Label.Name l) f row))
      → OutcomeLegible o → PartsLegible (Some (Label.Name l)) rest → PartsLegible last (part_then l o rest)
  part_then-legible last l (Outcome.refused q) rest k h g = tt
  part_then-legible last l (Outcome.coerced f) (FieldsOutcome.refused q) k h g = tt
  part_then-legible last l (Outcome.coerced f) (FieldsOutcome.parts row) k h g = k f row h g

  field_then-legible : (sub : SubFn) → SubKeeps sub → (ctx : List Kind) (last : Option Label) (l : Name) (a : Option Sig) (t : Sig) (rest : FieldsOutcome)
      → ((f : Term) (row : TermRow) → TermLegible v f → TermRowLegible v (Some (Label.Name l)) row → TermRowLegible v last (TermRow.More (Label.Name l) f row))
      → PartLegible a → SigLegible v t → PartsLegible (Some (Label.Name l)) rest → PartsLegible last (field_then sub ctx l a t rest)
  field_then-legible sub k ctx last l None t rest f h g b = tt
  field_then-legible sub k ctx last l (Some s) t rest f h g b = part_then-legible last l (sub ctx s t) rest f (k ctx s t h g) b

  fields_step-legible : (sub : SubFn) → SubKeeps sub → (ctx : List Kind) (last : Option Label) (fs gs : SigRow) → FieldsLegible v None fs
      → FieldsLegible v last gs → PartsLegible last (fields_step sub ctx fs gs)
  fields_step-legible sub k ctx last fs SigRow.End h g = tt
  fields_step-legible sub k ctx last fs (SigRow.More l t gs) h g =
      field_then-legible sub k ctx last l (find_field l fs) t (fields_step sub ctx fs gs) (λ f row a b. (g.0, g.1, a, b))
      (find_field-legible l None fs h) g.2 (fields_step-legible sub k ctx (Some (Label.Name l)) fs gs h g.3)

  fields_up-legible : (from : Ty) (o : FieldsOutcome) → TyLegible v from → PartsLegible None o → OutcomeLegible (fields_up from o)
  fields_up-legible from (FieldsOutcome.refused q) a h = tt
  fields_up-legible from (FieldsOutcome.parts row) a h = (a, coerced-legible v None row h)

  result_step-legible : (F : Fns) → FnsKeep F → (ctx : List Kind) (e d : Effect) (x y : Abs) → AbsLegible v x → AbsLegible v y
      → OutcomeLegible (result_step F ctx e d x y)
  result_step-legible F k ctx e Impure x y h g = k.1 ctx x y h g
  result_step-legible F k ctx Pure Pure (Abs.Ex [] s) (Abs.Ex [] t) h g = k.0 ctx s t h g
  result_step-legible F k ctx e d x y h g = tt

  result_up-legible : (f : Term → Term) (o : Outcome) → ((g : Term) → TermLegible v g → TermLegible v (f g)) → OutcomeLegible o → OutcomeLegible (result_up f o)
  result_up-legible f (Outcome.refused q) k h = tt
  result_up-legible f (Outcome.coerced g) k h = k g h

  param_up-legible : (f : List Ty → Term → Outcome) (o : MatchOutcome)
      → ((ts : List Ty) (g : Term) → TypesLegible v ts → TermLegible v g → OutcomeLegible (f ts g)) → MatchedLegible o → OutcomeLegible (param_up f o)
  param_up-legible f (MatchOutcome.refused q) k h = tt
  param_up-legible f (MatchOutcome.matched ts g) k h = k ts g h.0 h.1

  where_may-legible : (e d : Effect) (q : MatchRefusal) (o : Outcome) → OutcomeLegible o → OutcomeLegible (where_may e d q o)
  where_may-legible Impure Pure q o h = tt
  where_may-legible e d q o h = h

  functors-legible : (F : Fns) → FnsKeep F → (ctx : List Kind) (e d : Effect) (ks js : List Kind) (s t : Sig) (x z : Abs) → SigLegible v (Sig.Fun e ks s x)
      → SigLegible v (Sig.Fun d js t z) → OutcomeLegible (sub_step F ctx (Sig.Fun e ks s x) (Sig.Fun d js t z))
  functors-legible F k ctx e d ks js s t x z h g =
      let inner = extend ctx js in
      let from = enc (Sig.Fun e ks s x) in
      let y = λ (ts : List Ty). normal_abs inner (abs_at_under js ts x) in
      let whole = λ (ts : List Ty) (f c : Term). functor_part from e d js (enc t) ts f c in
      where_may-legible e d _ _
      (param_up-legible (λ ts f. result_up (whole ts f) (result_step F inner e d (y ts) z)) (F.2 inner t (raise_abs js (Abs.Ex ks s)))
      (λ ts f a b. result_up-legible (whole ts f) (result_step F inner e d (y ts) z)
      (λ c i. functor_part-legible v from e d js (enc t) ts f c (enc-legible v (Sig.Fun e ks s x) h) (enc-legible v t g.0) a b i)
      (result_step-legible F k inner e d (y ts) z (normal_abs-legible v inner (abs_at_under js ts x) (abs_at-legible v ts (past js) x a h.1)) g.1))
      (k.2 inner t (raise_abs js (Abs.Ex ks s)) g.0 (rename_abs-legible v (past js) (Abs.Ex ks s) h.0)))

  sub_step-keeps : (F : Fns) → FnsKeep F → SubKeeps (sub_step F)
  sub_step-keeps F k ctx (Sig.Val t) (Sig.Val u) h g = where_same-legible (dec_ty t u) (same_part (enc (Sig.Val t))) (clash ctx (Types t u))
      (enc-legible v (Sig.Val t) h, tt)
  sub_step-keeps F k ctx (Sig.Typ t i) (Sig.Typ u j) h g = where_both_same-legible (dec_ty t u) (Kind-discrete i j) (same_part (enc (Sig.Typ t i)))
      (clash ctx (Types t u)) (enc-legible v (Sig.Typ t i) h, tt)
  sub_step-keeps F k ctx (Sig.Meta x) (Sig.Meta y) h g =
      both_ways-legible (meta_part (enc (Sig.Meta x)) (enc_abs y)) (F.1 ctx x y) (F.1 ctx y x)
      (enc-legible v (Sig.Meta x) h, (refl, tt, (enc_abs-legible v y g, tt), tt))
  sub_step-keeps F k ctx (Sig.Str fs) (Sig.Str gs) h g = fields_up-legible (enc (Sig.Str fs)) (fields_step F.0 ctx fs gs) (enc-legible v (Sig.Str fs) h)
      (fields_step-legible F.0 k.0 ctx None fs gs h g)
  sub_step-keeps F k ctx (Sig.Fun e ks s x) (Sig.Fun d js t z) h g = functors-legible F k ctx e d ks js s t x z h g
  sub_step-keeps F k ctx s r h g = tt

  -- the functions for signatures up to a size

  fns-keep : (n : ℕ) → FnsKeep (fns n)
  fns-keep zero = (λ ctx s r h g. tt, λ ctx x y h g. tt, λ ctx s x h g. tt)
  fns-keep (suc n) = let k = fns-keep n in (sub_step-keeps (fns n) k, abs_step-keeps (fns n) k, match_step-keeps (fns n) k)

  -- a match of legible signatures finds legible types and a legible coercion
  pub match-legible : {ctx : List Kind} {s : Sig} {x : Abs} {ts : List Ty} {f : Term} → OkSig ctx s → OkRight ctx x → Match ctx s x ts f → SigLegible v s
      → AbsLegible v x → TypesLegible v ts × TermLegible v f
  match-legible {ctx} {s} {x} {ts} {f} w r m h g = subst MatchedLegible (((match_sig_gives ctx s x w r).0 ts f).1 m)
      ((fns-keep (suc (size s + size_abs x))).2 ctx s x h g)
