-- What the calls make is what the rules give.
-- Main results: project-impure, type-path, value-path, sig-path-at, applied-at, sequence-pure, sequence-impure.
use Rattle.std.specs.Prelude.{ℕ, zero, suc, ◌<◌, ◌++◌, List, [], ◌∷◌, ◌≡◌, ◌==◌, true, length, map, Option, Some, None}
use Rattle.std.proofs.Math.Path.{refl, sym, subst, ap, ap₂, ◌∙◌}
use Rattle.std.proofs.Common.{arith}
use Rattle.std.proofs.lemmas.Bool.{eqb-true}
use Rattle.omega_kinds.specs.Kind.{Kind}
use Rattle.omega_kinds.specs.declared.label.Label.{Label}
use Rattle.omega_kinds.specs.declared.effect.Effect.{Effect}
use Rattle.omega_kinds.specs.declared.effect.Effect.TheVariants.{Pure, Impure}
use Rattle.omega_kinds.specs.Name.{Name}
use Rattle.omega_types.specs.Ty.{Ty}
use Rattle.omega_types.specs.Normality.{Normal}
use Rattle.omega_types.specs.Mentions.{Mentions}
use Rattle.omega_types.specs.Index.{bump, shift}
use Rattle.omega_types.specs.Substitution.{rename}
use Rattle.omega_types.specs.Binders.{extend, lifts, raise, vars, puts, NormalForms}
use Rattle.omega_terms.specs.Term.{Term}
use Rattle.omega_terms.specs.Instance.{Instance}
use Rattle.omega_terms.proofs.InstanceLaws.{type-self}
use Rattle.omega_terms.specs.Coercions.{result_label}
use Rattle.omega_terms.specs.PartTerms.{one_field}
use Rattle.omega_terms.specs.Shorthands.{Packs, insts, let_in, opens, ty_lam_over}
use Rattle.sig_definitions.specs.Env.{Env, find}
use Rattle.sig_definitions.specs.Signatures.Sig.{Sig, Abs, SigRow, HasField, NoField, Module, made}
use Rattle.sig_definitions.specs.Signatures.SigSubst.{rename_sig, rename_abs, rename_sig_row}
use Rattle.sig_definitions.specs.Signatures.SigMentions.{MentionsSig}
use Rattle.sig_definitions.specs.Signatures.Alike.{NormalSig, NormalAbs, NormalSigRow, IsSigAt, IsAbsAt}
use Rattle.sig_definitions.specs.Signatures.Encoding.{enc, enc_abs}
use Rattle.sig_definitions.specs.Packing.{Packed}
use Rattle.sig_laws.specs.Good.{Distinct, DistinctRow, KindedAbs, KindedModule, NormalTerm}
use Rattle.sig_laws.proofs.Algebra.BinderLaws.{extend-append}
use Rattle.sig_laws.proofs.Encoded.EncodingTyping.{distinct-normal, distinct_abs-normal}
use Rattle.sig_laws.proofs.Algebra.PathLaws.{no-field, field-normal}
use Rattle.semantic_sigs.specs.Inner.Changes.{ty_in, putting}
use Rattle.semantic_sigs.specs.Inner.Fields.{sig_row}
use Rattle.semantic_sigs.specs.declared.tree.SigNode.{SigNode}
use Rattle.semantic_sigs.specs.declared.tree.SigNode.TheVariants as node
use Rattle.semantic_sigs.specs.Inner.View.{kinds_of, body_of, sig_of}
use Rattle.omega_kinds.specs.View.{kind_tree}
use Rattle.module_judgments.specs.ModWhy.{Unbound, NoPart, NotStructure, NotFunctor, WrongPath, Escapes}
use Rattle.module_judgments.specs.ModRules.{NamedGives, NamedRefuses, ProjectRefuses, TypePathRefuses, ValuePathRefuses, SigPathRefuses, GenerativeGives, PartsGive, FunctorRefuses, ApplyGives, SealGives, IncludeGives, IncludeRefuses}
use Rattle.module_judgments.specs.PathUse.{TypeOfPath, ValueOfPath, SigOfPath, value_of}
use Rattle.module_judgments.specs.Projection.{Projected}
use Rattle.module_judgments.specs.Sequence.{Seq, joined, past_opens, field_lets}
use Rattle.omega_shorthands.specs.Inner.Packed.{Fills}
use Rattle.module_rules.specs.Inner.Shown.{PackedAgain, OpenedTerm}
use Rattle.module_rules.proofs.Own.{types-put}
use Rattle.module_rules.proofs.Packs.{fills_own, fills_raised, fills_both, shift-raise}
use Rattle.module_rules.proofs.Outside.{type-outside, type-inside, sig-outside, sig-inside}

-- names

-- a name that is found gives the pure module of its signature and its term
pub named-gives : (g : Env) (l : Name) (o : Option (Sig × Term)) (s : Sig) (e : Term) (m : Module) → o ≡ find g l → o ≡ Some (s, e) → m ≡ made Pure (Abs.Ex [] s) [] e → NamedGives g l m
named-gives g l o s e m eo es em = subst (NamedGives g l) (sym em) (NamedGives.named (sym eo ∙ es))

-- a name that is not found is refused as unbound
pub named-refuses : (g : Env) (l n : Name) (o : Option (Sig × Term)) → o ≡ find g l → o ≡ None → n ≡ l → NamedRefuses g l (Unbound n)
named-refuses g l n o eo es en = subst (λ m. NamedRefuses g l (Unbound m)) (sym en) (NamedRefuses.unbound (sym eo ∙ es))

-- packed

pub packed-pure : (x : Abs) (ts : List Ty) (e d : Term) → ((ctx : List Kind) → Fills ctx ts (enc_abs x) → Packs ctx ts e (enc_abs x) d) → (ctx : List Kind) → KindedModule ctx (made Pure x ts e) → Packed ctx (made Pure x ts e) d
packed-pure (Abs.Ex ks s) ts e d p ctx ok = Packed.pure (p ctx (fills_own ctx ks s ts ok.0.0 ok.0.1 ok.1))

pub packed-impure : (x : Abs) (ts : List Ty) (e : Term) (ctx : List Kind) → KindedModule ctx (made Impure x ts e) → Packed ctx (made Impure x ts e) e
packed-impure (Abs.Ex ks s) ts e ctx ok = subst (λ us. Packed ctx (made Impure (Abs.Ex ks s) us e) e) (sym ok.1) Packed.impure

-- a pure module's term with its types packed in is its packed term
pub packed-of-pure : (f : Effect) (x : Abs) (ts : List Ty) (e d : Term) → f ≡ Pure → ((ctx : List Kind) → Fills ctx ts (enc_abs x) → Packs ctx ts e (enc_abs x) d) → (ctx : List Kind) → KindedModule ctx (made f x ts e) → Packed ctx (made f x ts e) d
packed-of-pure f x ts e d ef p ctx ok = subst (λ g. Packed ctx (made g x ts e) d) (sym ef) (packed-pure x ts e d p ctx (subst (λ g. KindedModule ctx (made g x ts e)) ef ok))

-- an impure module's term is its packed term
pub packed-of-impure : (f : Effect) (x : Abs) (ts : List Ty) (e d : Term) → f ≡ Impure → d ≡ e → (ctx : List Kind) → KindedModule ctx (made f x ts e) → Packed ctx (made f x ts e) d
packed-of-impure f x ts e d ef ed ctx ok = subst (λ g. Packed ctx (made g x ts e) d) (sym ef) (subst (Packed ctx (made Impure x ts e)) (sym ed) (packed-impure x ts e ctx (subst (λ g. KindedModule ctx (made g x ts e)) ef ok)))

-- types packed into a term, given by equal types and an equal target
pub packs-at : (ts us : List Ty) (e : Term) (to u : Ty) (d : Term) → ts ≡ us → to ≡ u → ((ctx : List Kind) → Fills ctx ts to → Packs ctx ts e to d) → (ctx : List Kind) → Fills ctx us u → Packs ctx us e u d
packs-at ts us e to u d et eu p ctx fills =
    subst (λ v. Packs ctx us e v d) eu (subst (λ vs. Packs ctx vs e to d) et (p ctx (subst (λ vs. Fills ctx vs to) (sym et) (subst (Fills ctx us) (sym eu) fills))))

none-in : (ts : List Ty) → true ≡ (length ts == 0) → ts ≡ []
none-in [] e = refl
none-in (t ∷ ts) e = absurd (omega (arith, eqb-true (length (t ∷ ts)) 0 (sym e)))

-- a term into which no types are packed stays as it is
pub packs-none : (ts us : List Ty) (e : Term) (u : Ty) (d : Term) → true ≡ (length ts == 0) → ts ≡ us → d ≡ e → (ctx : List Kind) → Packs ctx us e u d
packs-none ts us e u d none et ed ctx = subst (λ x. Packs ctx us e u x) (sym ed) (subst (λ vs. Packs ctx vs e u e) (sym (none-in ts none) ∙ et) Packs.none)

-- the binders' own types packed in, below the binders, under the shifted encoding
pub packs-again : (ks : List Kind) (count : ℕ) (x : Abs) (from to : Ty) (ts us : List Ty) (e d : Term) → from ≡ enc_abs x → count ≡ length ks → to ≡ shift count 0 from → us ≡ vars ks → ts ≡ us → ((ctx : List Kind) → Fills ctx ts to → Packs ctx ts e to d) → PackedAgain ks x e d
packs-again ks count x from to ts us e d ef ec et eu es p ctx fills =
    packs-at ts (vars ks) e to (raise ks (enc_abs x)) d (es ∙ eu) (et ∙ (ap (shift count 0) ef ∙ shift-raise ks count (enc_abs x) (sym ec))) p (extend ctx ks) fills

-- a term that opens a package, with as many types as the code counts
pub opened-by : (ks : List Kind) (js : List Kind) (count : ℕ) (e body out : Term) (from u : Ty) → count ≡ length js → js ≡ ks → from ≡ u → ((ls : List Kind) → length ls ≡ count → out ≡ opens ls e from body) → out ≡ opens ks e u body
opened-by ks js count e body out from u ec ej ef h = h ks (sym (ec ∙ ap length ej)) ∙ ap (λ v. opens ks e v body) ef

-- parts

distinct-field : {fs : SigRow} {l : Name} {s : Sig} → DistinctRow fs → HasField fs l s → Distinct s
distinct-field d HasField.here = d.1
distinct-field d (HasField.there n h) = distinct-field d.2 h

part-kinded : (ctx ks : List Kind) (fs : SigRow) (l : Name) (s : Sig) → KindedAbs ctx (Abs.Ex ks (Sig.Str fs)) → HasField fs l s → KindedAbs ctx (Abs.Ex ks s)
part-kinded ctx ks fs l s ok h = (distinct-field ok.0 h, field-normal (extend ctx ks) ok.1 h)

pub projected-pure : (x : Abs) (fs : SigRow) (l : Name) (s : Sig) (ts : List Ty) (e : Term) → body_of x ≡ Sig.Str fs → HasField fs l s → (ctx : List Kind) → KindedModule ctx (made Pure x ts e) → Projected ctx (made Pure x ts e) l (made Pure (Abs.Ex (kinds_of x) s) ts (Term.Get e (Label.Name l)))
projected-pure (Abs.Ex ks b) fs l s ts e eb h ctx ok = subst (λ b. Projected ctx (made Pure (Abs.Ex ks b) ts e) l (made Pure (Abs.Ex ks s) ts (Term.Get e (Label.Name l)))) (sym eb) (Projected.pure h)

-- the part of an opened module, packed
abbrev pub OpenedPart : (whole part : Abs) (e : Term) (l : Name) (f : Term) → Type 0
OpenedPart x y e l f =
    (d : Term) × PackedAgain (kinds_of x) y (Term.Get (Term.Var zero) (Label.Name l)) d × (f ≡ opens (kinds_of x) e (enc_abs x) d)

pub projected-impure : (x : Abs) (fs : SigRow) (l : Name) (s : Sig) (ts : List Ty) (e f : Term) → body_of x ≡ Sig.Str fs → HasField fs l s → OpenedPart x (Abs.Ex (kinds_of x) s) e l f → (ctx : List Kind) → KindedModule ctx (made Impure x ts e) → Projected ctx (made Impure x ts e) l (made Impure (Abs.Ex (kinds_of x) s) [] f)
projected-impure (Abs.Ex ks b) fs l s ts e f eb h p ctx ok = go b eb ok p
  where
    go : (b : Sig) → b ≡ Sig.Str fs → KindedModule ctx (made Impure (Abs.Ex ks b) ts e) → OpenedPart (Abs.Ex ks b) (Abs.Ex ks s) e l f → Projected ctx (made Impure (Abs.Ex ks b) ts e) l (made Impure (Abs.Ex ks s) [] f)
    go b eq good given =
        let okay : KindedAbs ctx (Abs.Ex ks (Sig.Str fs)) = subst (λ b. KindedAbs ctx (Abs.Ex ks b)) eq good.0 in
        let part : KindedAbs ctx (Abs.Ex ks s) = part-kinded ctx ks fs l s okay h in
        let packs : Packs (extend ctx ks) (vars ks) (Term.Get (Term.Var zero) (Label.Name l)) (raise ks (enc_abs (Abs.Ex ks s))) given.0 = given.1 ctx (fills_raised ctx ks (enc s) (distinct_abs-normal (Abs.Ex ks s) part.0 part.1)) in
        subst (λ b. Projected ctx (made Impure (Abs.Ex ks b) ts e) l (made Impure (Abs.Ex ks s) [] f)) (sym eq)
        (subst (λ u. Projected ctx (made Impure (Abs.Ex ks (Sig.Str fs)) ts e) l (made Impure (Abs.Ex ks s) [] u)) (sym (given.2 ∙ ap (λ b. opens ks e (enc_abs (Abs.Ex ks b)) given.0) eq)) (Projected.impure h packs))

-- the part of an opened module, with its types packed again
pub opened-part : (x y : Abs) (ks : List Kind) (e g part own body f : Term) (l : Name) → own ≡ Term.Var zero → part ≡ Term.Get own (Label.Name l) → ks ≡ kinds_of x → PackedAgain ks y part body → g ≡ e → f ≡ opens (kinds_of x) g (enc_abs x) body → OpenedPart x y e l f
opened-part x y ks e g part own body f l eo ep ek p eg ef =
    (body, subst (λ js. PackedAgain js y (Term.Get (Term.Var zero) (Label.Name l)) body) ek (subst (λ u. PackedAgain ks y u body) (ep ∙ ap (λ u. Term.Get u (Label.Name l)) eo) p), ef ∙ ap (λ u. opens (kinds_of x) u (enc_abs x) body) eg)

-- a projection from what is no structure is refused
pub project_no-structure : (f : Effect) (x : Abs) (ts : List Ty) (e : Term) (l : Name) (b : Sig) → b ≡ body_of x → ((fs : SigRow) → b ≡ Sig.Str fs → ⊥) → ProjectRefuses (made f x ts e) l NotStructure
project_no-structure f (Abs.Ex ks s) ts e l b eb h = ProjectRefuses.no_structure (λ fs q. h fs (eb ∙ q))

-- a projection of a name that the structure lacks is refused as no part
pub project_no-part : (f : Effect) (x : Abs) (ts : List Ty) (e : Term) (l n : Name) (b : Sig) (fs : SigRow) → b ≡ body_of x → b ≡ Sig.Str fs → NoField l fs → n ≡ l → ProjectRefuses (made f x ts e) l (NoPart n)
project_no-part f (Abs.Ex ks s) ts e l n b fs eb es missing en =
    subst (λ m. ProjectRefuses (made f (Abs.Ex ks s) ts e) l (NoPart m)) (sym en)
    (subst (λ s. ProjectRefuses (made f (Abs.Ex ks s) ts e) l (NoPart l)) (sym es ∙ eb) (ProjectRefuses.no_part (λ s h. no-field fs missing h)))

-- what is projected, as it is put together
pub project-pure : (f : Effect) (x y z : Abs) (fs : SigRow) (l : Name) (s : Sig) (ts us : List Ty) (e term : Term) → f ≡ Pure → body_of x ≡ Sig.Str fs → HasField fs l s → y ≡ Abs.Ex (kinds_of x) s → z ≡ y → us ≡ ts → term ≡ Term.Get e (Label.Name l) → (ctx : List Kind) → KindedModule ctx (made f x ts e) → Projected ctx (made f x ts e) l (made Pure z us term)
project-pure f x y z fs l s ts us e term ef es h ey ez eu et ctx ok =
    let whole : made Pure (Abs.Ex (kinds_of x) s) ts (Term.Get e (Label.Name l)) ≡ made Pure z us term = sym (ap (λ u. made Pure u us term) (ez ∙ ey) ∙ (ap (λ u. made Pure (Abs.Ex (kinds_of x) s) u term) eu ∙ ap (made Pure (Abs.Ex (kinds_of x) s) ts) et)) in
    subst (λ g. Projected ctx (made g x ts e) l (made Pure z us term)) (sym ef)
    (subst (Projected ctx (made Pure x ts e) l) whole
    (projected-pure x fs l s ts e es h ctx (subst (λ g. KindedModule ctx (made g x ts e)) ef ok)))

-- a projection from an impure module opens it and packs the part again
pub project-impure : (f : Effect) (x y z : Abs) (fs : SigRow) (l : Name) (s : Sig) (ts us : List Ty) (e term : Term) → f ≡ Impure → body_of x ≡ Sig.Str fs → HasField fs l s → y ≡ Abs.Ex (kinds_of x) s → z ≡ y → us ≡ [] → OpenedPart x y e l term → (ctx : List Kind) → KindedModule ctx (made f x ts e) → Projected ctx (made f x ts e) l (made Impure z us term)
project-impure f x y z fs l s ts us e term ef es h ey ez eu p ctx ok =
    let whole : made Impure (Abs.Ex (kinds_of x) s) [] term ≡ made Impure z us term = sym (ap (λ u. made Impure u us term) (ez ∙ ey) ∙ ap (λ u. made Impure (Abs.Ex (kinds_of x) s) u term) eu) in
    subst (λ g. Projected ctx (made g x ts e) l (made Impure z us term)) (sym ef)
    (subst (Projected ctx (made Impure x ts e) l) whole
    (projected-impure x fs l s ts e term es h (subst (λ z. OpenedPart x z e l term) ey p) ctx (subst (λ g. KindedModule ctx (made g x ts e)) ef ok)))

-- paths

-- the type of a path, lowered past the hidden types that it does not mention
pub type-path : (f : Effect) (x : Abs) (ts : List Ty) (e : Term) (t n : Ty) (k : Kind) (count : ℕ) → body_of x ≡ Sig.Typ t k → length (kinds_of x) ≡ count → shift count 0 n ≡ t → ((inner ctx : List Kind) (k : Kind) → length inner ≡ count → Normal (inner ++ ctx) t k → Normal ctx n k) → (ctx : List Kind) → KindedModule ctx (made f x ts e) → TypeOfPath ctx (made f x ts e) n k
type-path f (Abs.Ex ks b) ts e t n k count eb len back lower ctx ok =
    subst (λ b. TypeOfPath ctx (made f (Abs.Ex ks b) ts e) n k) (sym eb) (TypeOfPath.type_of (type-outside ctx ks count t n k len (subst (NormalSig (extend ctx ks)) eb ok.0.1) back lower))

-- the type of a path is refused if it mentions a hidden type
pub type-escapes : (f : Effect) (x : Abs) (ts : List Ty) (e : Term) (t : Ty) (k : Kind) (count i : ℕ) → body_of x ≡ Sig.Typ t k → length (kinds_of x) ≡ count → i < count → Mentions i t → (ctx : List Kind) → KindedModule ctx (made f x ts e) → TypePathRefuses ctx (made f x ts e) Escapes
type-escapes f (Abs.Ex ks b) ts e t k count i eb len lt m ctx ok =
    subst (λ b. TypePathRefuses ctx (made f (Abs.Ex ks b) ts e) Escapes) (sym eb) (TypePathRefuses.escapes (type-inside ctx ks count t k len (subst (NormalSig (extend ctx ks)) eb ok.0.1) i lt m))

-- the value of a path, its type lowered past the hidden types that it does not mention
pub value-path : (f : Effect) (x : Abs) (ts : List Ty) (e d : Term) (t n : Ty) (count : ℕ) → body_of x ≡ Sig.Val t → length (kinds_of x) ≡ count → shift count 0 n ≡ t → ((inner ctx : List Kind) (k : Kind) → length inner ≡ count → Normal (inner ++ ctx) t k → Normal ctx n k) → d ≡ value_of f (kinds_of x) e (enc_abs x) → (ctx : List Kind) → KindedModule ctx (made f x ts e) → ValueOfPath ctx (made f x ts e) n d
value-path f (Abs.Ex ks b) ts e d t n count eb len back lower ed ctx ok =
    let o = type-outside ctx ks count t n Kind.Star len (subst (NormalSig (extend ctx ks)) eb ok.0.1) back lower in
    subst (λ b. ValueOfPath ctx (made f (Abs.Ex ks b) ts e) n d) (sym eb)
    (subst (ValueOfPath ctx (made f (Abs.Ex ks (Sig.Val t)) ts e) n) (sym (ed ∙ ap (λ b. value_of f ks e (enc_abs (Abs.Ex ks b))) eb)) (ValueOfPath.value_at o))

-- the value of a path is refused if its type mentions a hidden type
pub value-escapes : (f : Effect) (x : Abs) (ts : List Ty) (e : Term) (t : Ty) (count i : ℕ) → body_of x ≡ Sig.Val t → length (kinds_of x) ≡ count → i < count → Mentions i t → (ctx : List Kind) → KindedModule ctx (made f x ts e) → ValuePathRefuses ctx (made f x ts e) Escapes
value-escapes f (Abs.Ex ks b) ts e t count i eb len lt m ctx ok =
    subst (λ b. ValuePathRefuses ctx (made f (Abs.Ex ks b) ts e) Escapes) (sym eb) (ValuePathRefuses.escapes (type-inside ctx ks count t Kind.Star len (subst (NormalSig (extend ctx ks)) eb ok.0.1) i lt m))

meta-same : {x y : Abs} → Sig.Meta x ≡ Sig.Meta y → x ≡ y
meta-same e = cc

pub sig-path : (f : Effect) (x : Abs) (ts : List Ty) (e : Term) (y n : Abs) (shown : Sig) (count : ℕ) → body_of x ≡ Sig.Meta y → length (kinds_of x) ≡ count → rename_sig (bump count 0) shown ≡ body_of x → shown ≡ Sig.Meta n → ((inner ctx : List Kind) → length inner ≡ count → NormalSig (inner ++ ctx) (body_of x) → NormalSig ctx shown) → (ctx : List Kind) → KindedModule ctx (made f x ts e) → SigOfPath ctx (made f x ts e) n
sig-path f (Abs.Ex ks b) ts e y n shown count eb len back es lower ctx ok =
    let same : rename_abs (bump count 0) n ≡ y = meta-same (ap (rename_sig (bump count 0)) (sym es) ∙ (back ∙ eb)) in
    subst (λ b. SigOfPath ctx (made f (Abs.Ex ks b) ts e) n) (sym eb)
    (SigOfPath.sig_of (sig-outside ctx ks count y n len (subst (NormalSig (extend ctx ks)) eb ok.0.1) same (λ inner c l h. subst (NormalSig c) es (lower inner c l (subst (NormalSig (inner ++ c)) (sym eb) h)))))

-- what stands outside of the variables of a signature part is one too
pub still-shown : (r : ℕ → ℕ) (shown b : Sig) (y : Abs) → rename_sig r shown ≡ b → b ≡ Sig.Meta y → ((x : Abs) → shown ≡ Sig.Meta x → ⊥) → ⊥
still-shown r (Sig.Val t) b y e eb h = let q : Sig.Val (rename r t) ≡ Sig.Meta y = e ∙ eb in cc
still-shown r (Sig.Typ t k) b y e eb h = let q : Sig.Typ (rename r t) k ≡ Sig.Meta y = e ∙ eb in cc
still-shown r (Sig.Meta x) b y e eb h = h x refl
still-shown r (Sig.Str fs) b y e eb h = let q : Sig.Str (rename_sig_row r fs) ≡ Sig.Meta y = e ∙ eb in cc
still-shown r (Sig.Fun f ks s x) b y e eb h = let q : Sig.Fun f ks (rename_sig (lifts ks r) s) (rename_abs (lifts ks r) x) ≡ Sig.Meta y = e ∙ eb in cc

pub sig-escapes : (f : Effect) (x : Abs) (ts : List Ty) (e : Term) (y : Abs) (count i : ℕ) → body_of x ≡ Sig.Meta y → length (kinds_of x) ≡ count → i < count → MentionsSig i (body_of x) → (ctx : List Kind) → KindedModule ctx (made f x ts e) → SigPathRefuses ctx (made f x ts e) Escapes
sig-escapes f (Abs.Ex ks b) ts e y count i eb len lt m ctx ok =
    subst (λ b. SigPathRefuses ctx (made f (Abs.Ex ks b) ts e) Escapes) (sym eb) (SigPathRefuses.escapes (sig-inside ctx ks count y len (subst (NormalSig (extend ctx ks)) eb ok.0.1) i lt (subst (MentionsSig i) eb m)))

-- the signature of a path is refused if it mentions a hidden type
pub sig-escapes-at : (f : Effect) (x : Abs) (ts : List Ty) (e : Term) (b b2 : Sig) (y : Abs) (count i : ℕ) → b ≡ body_of x → b2 ≡ body_of x → b ≡ Sig.Meta y → length (kinds_of x) ≡ count → i < count → MentionsSig i b2 → (ctx : List Kind) → KindedModule ctx (made f x ts e) → SigPathRefuses ctx (made f x ts e) Escapes
sig-escapes-at f x ts e b b2 y count i eb eb2 is len lt m = sig-escapes f x ts e y count i (sym eb ∙ is) len lt (subst (MentionsSig i) eb2 m)

-- the signature of a path, lowered past the hidden types that it does not mention
pub sig-path-at : (f : Effect) (x : Abs) (ts : List Ty) (e : Term) (b b2 : Sig) (y n m : Abs) (shown : Sig) (count : ℕ) → b ≡ body_of x → b2 ≡ body_of x → b ≡ Sig.Meta y → length (kinds_of x) ≡ count → rename_sig (bump count 0) shown ≡ b2 → shown ≡ Sig.Meta m → n ≡ m → ((inner ctx : List Kind) → length inner ≡ count → NormalSig (inner ++ ctx) b2 → NormalSig ctx shown) → (ctx : List Kind) → KindedModule ctx (made f x ts e) → SigOfPath ctx (made f x ts e) n
sig-path-at f x ts e b b2 y n m shown count eb eb2 is len back found en lower =
    sig-path f x ts e y n shown count (sym eb ∙ is) len (back ∙ eb2) (found ∙ ap Sig.Meta (sym en)) (λ inner ctx l h. lower inner ctx l (subst (NormalSig (inner ++ ctx)) (sym eb2) h))

-- paths of another form

-- a path to what is no type is refused as a type
pub type-wrong : (f : Effect) (x : Abs) (ts : List Ty) (e : Term) (b : Sig) → b ≡ body_of x → ((t : Ty) (k : Kind) → b ≡ Sig.Typ t k → ⊥) → (ctx : List Kind) → KindedModule ctx (made f x ts e) → TypePathRefuses ctx (made f x ts e) WrongPath
type-wrong f (Abs.Ex ks s) ts e b eb h ctx ok = TypePathRefuses.no_type (λ t k q. h t k (eb ∙ q))

-- a path to what is no value is refused as a value
pub value-wrong : (f : Effect) (x : Abs) (ts : List Ty) (e : Term) (b : Sig) → b ≡ body_of x → ((t : Ty) → b ≡ Sig.Val t → ⊥) → (ctx : List Kind) → KindedModule ctx (made f x ts e) → ValuePathRefuses ctx (made f x ts e) WrongPath
value-wrong f (Abs.Ex ks s) ts e b eb h ctx ok = ValuePathRefuses.no_value (λ t q. h t (eb ∙ q))

-- a path to what is no signature is refused as a signature
pub sig-wrong : (f : Effect) (x : Abs) (ts : List Ty) (e : Term) (b : Sig) → b ≡ body_of x → ((y : Abs) → b ≡ Sig.Meta y → ⊥) → (ctx : List Kind) → KindedModule ctx (made f x ts e) → SigPathRefuses ctx (made f x ts e) WrongPath
sig-wrong f (Abs.Ex ks s) ts e b eb h ctx ok = SigPathRefuses.no_signature (λ y q. h y (eb ∙ q))

-- functors

-- a generative functor is made of its parameter and its packed body
pub generative-made : (x y : Abs) (sg : Sig) (f : Effect) (ts : List Ty) (e d term : Term) (m : Module)
    → ((ctx : List Kind) → KindedModule ctx (made f y ts e) → Packed ctx (made f y ts e) d)
    → term ≡ ty_lam_over (kinds_of x) (Term.Lam (enc (body_of x)) (one_field Label.Gen d))
    → sg ≡ Sig.Fun Impure (kinds_of x) (body_of x) y → m ≡ made Pure (Abs.Ex [] sg) [] term
    → (ctx : List Kind) → KindedModule (extend ctx (kinds_of x)) (made f y ts e) → GenerativeGives ctx (kinds_of x) (body_of x) (made f y ts e) m
generative-made x y sg f ts e d term m pack et es em ctx ok =
    let whole : m ≡ made Pure (Abs.Ex [] (Sig.Fun Impure (kinds_of x) (body_of x) y)) [] (ty_lam_over (kinds_of x) (Term.Lam (enc (body_of x)) (one_field Label.Gen d))) = em ∙ (ap (λ u. made Pure (Abs.Ex [] u) [] term) es ∙ ap (made Pure (Abs.Ex [] (Sig.Fun Impure (kinds_of x) (body_of x) y)) []) et) in
    subst (GenerativeGives ctx (kinds_of x) (body_of x) (made f y ts e)) (sym whole) (GenerativeGives.generative (pack (extend ctx (kinds_of x)) ok))

-- the term of a generative functor, as the code puts it together
pub generative-term : (ks js : List Kind) (b s : Sig) (from : Ty) (d r function term : Term) → r ≡ one_field Label.Gen d → from ≡ enc b → b ≡ s → function ≡ Term.Lam from r → term ≡ ty_lam_over js function → js ≡ ks → term ≡ ty_lam_over ks (Term.Lam (enc s) (one_field Label.Gen d))
generative-term ks js b s from d r function term er ef eb efun et ej =
    et ∙ (ap (λ u. ty_lam_over u function) ej ∙ ap (ty_lam_over ks) (efun ∙ (ap (λ u. Term.Lam u r) (ef ∙ ap enc eb) ∙ ap (Term.Lam (enc s)) er)))

-- the signature of a generative functor, as the code puts it together
pub generative-sig : (ks js : List Kind) (s b : Sig) (y : Abs) (sg : Sig) → js ≡ ks → b ≡ s → sg ≡ Sig.Fun Impure js b y → sg ≡ Sig.Fun Impure ks s y
generative-sig ks js s b y sg ej eb es = es ∙ (ap (λ u. Sig.Fun Impure u b y) ej ∙ ap (λ u. Sig.Fun Impure ks u y) eb)

fun-node : (n : SigNode) (b : Sig) → sig_of n ≡ b → ((f : Effect) (ks : List Kind) (s : Sig) (x : Abs) → n ≡ node.Fun f ks s x → ⊥) → (f : Effect) (ks : List Kind) (t : Sig) (x : Abs) → b ≡ Sig.Fun f ks t x → ⊥
fun-node (node.Val t) b en h f ks s x e = let q : Sig.Val t ≡ Sig.Fun f ks s x = en ∙ e in cc
fun-node (node.Typ t k) b en h f ks s x e = let q : Sig.Typ t (kind_tree k) ≡ Sig.Fun f ks s x = en ∙ e in cc
fun-node (node.Meta y) b en h f ks s x e = let q : Sig.Meta y ≡ Sig.Fun f ks s x = en ∙ e in cc
fun-node (node.Str fs) b en h f ks s x e = let q : Sig.Str (sig_row fs) ≡ Sig.Fun f ks s x = en ∙ e in cc
fun-node (node.Fun g js t y) b en h f ks s x e = h g js t y refl

-- what is no functor is refused as one
pub no-functor : (n : SigNode) (b s : Sig) → sig_of n ≡ b → b ≡ s → ((f : Effect) (ks : List Kind) (s : Sig) (x : Abs) → n ≡ node.Fun f ks s x → ⊥) → FunctorRefuses s NotFunctor
no-functor n b s en eb h = FunctorRefuses.no_functor (λ f ks t x e. fun-node n b en h f ks t x (eb ∙ e))

-- a seal is made of the term coerced and the types of the match
pub seal-made : (e c term : Term) (x y : Abs) (ts us : List Ty) → y ≡ x → us ≡ ts → term ≡ Term.Call c e → SealGives e x ts c (made Pure y us term)
seal-made e c term x y ts us ey eu et = rw (ey, eu, et) SealGives.seal

-- the term of an application, as the code puts it together
pub functor-type : (f : Effect) (term function arg call shared d c e : Term) (ts : List Ty) (label : Label) → shared ≡ d → function ≡ insts shared ts → arg ≡ Term.Call c e → call ≡ Term.Call function arg → label ≡ result_label f → term ≡ Term.Get call label → term ≡ Term.Get (Term.Call (insts d ts) (Term.Call c e)) (result_label f)
functor-type f term function arg call shared d c e ts label es ef ea ec el et =
    et ∙ (ap (Term.Get call) el ∙ ap (λ u. Term.Get u (result_label f)) (ec ∙ (ap (λ u. Term.Call u arg) (ef ∙ ap (λ u. insts u ts) es) ∙ ap (Term.Call (insts d ts)) ea)))

-- the parts of a functor's signature: its effect, its parameter and its result
pub parts-given : (sg s : Sig) (f : Effect) (ks js : List Kind) (p : Sig) (from y z : Abs) → sg ≡ Sig.Fun f ks s y → js ≡ ks → p ≡ s → from ≡ Abs.Ex js p → z ≡ y → PartsGive sg f from z
parts-given sg s f ks js p from y z es ej ep ef ez =
    let whole : Abs.Ex ks s ≡ from = cc in
    subst (λ u. PartsGive u f from z) (sym es) (subst (λ u. PartsGive (Sig.Fun f ks s y) f u z) whole (subst (PartsGive (Sig.Fun f ks s y) f (Abs.Ex ks s)) (sym ez) PartsGive.parts))

pub applied : (b s : Sig) (f : Effect) (ks : List Kind) (y w : Abs) (ts us : List Ty) (d c e term : Term)
    → b ≡ Sig.Fun f ks s y
    → ((ctx : List Kind) → NormalAbs (extend ctx ks) y → NormalForms ctx ts ks ts → IsAbsAt ctx y ts w)
    → term ≡ Term.Get (Term.Call (insts d ts) (Term.Call c e)) (result_label f) → us ≡ []
    → (ctx : List Kind) → NormalSig ctx b → ((f : Effect) (ks : List Kind) (s : Sig) (y : Abs) → b ≡ Sig.Fun f ks s y → NormalForms ctx ts ks ts)
    → ApplyGives ctx b d ts c e (made f w us term)
applied b s f ks y w ts us d c e term eb at et eu ctx n ns =
    let inner : NormalSig ctx (Sig.Fun f ks s y) = subst (NormalSig ctx) eb n in
    let all : made f w [] (Term.Get (Term.Call (insts d ts) (Term.Call c e)) (result_label f)) ≡ made f w us term = sym (ap (λ u. made f w u term) eu ∙ ap (made f w []) et) in
    subst (λ u. ApplyGives ctx u d ts c e (made f w us term)) (sym eb) (subst (ApplyGives ctx (Sig.Fun f ks s y) d ts c e) all (ApplyGives.apply (at ctx inner.1 (ns f ks s y eb))))

-- an application is made of the result at the types of the match
pub applied-at : (x : Abs) (b s : Sig) (f : Effect) (ks : List Kind) (y w : Abs) (items again ts us : List Ty) (d c e term : Term)
    → b ≡ body_of x → b ≡ Sig.Fun f ks s y → items ≡ ts → again ≡ ts
    → ((ctx : List Kind) → NormalAbs (extend ctx ks) y → NormalForms ctx items ks items → IsAbsAt ctx y items w)
    → term ≡ Term.Get (Term.Call (insts d again) (Term.Call c e)) (result_label f) → us ≡ []
    → (ctx : List Kind) → NormalSig ctx (body_of x) → ((f : Effect) (ks : List Kind) (s : Sig) (y : Abs) → body_of x ≡ Sig.Fun f ks s y → NormalForms ctx ts ks ts)
    → ApplyGives ctx (body_of x) d ts c e (made f w us term)
applied-at x b s f ks y w items again ts us d c e term eb es ei ea at et eu =
    applied (body_of x) s f ks y w ts us d c e term (sym eb ∙ es)
    (λ ctx n ns. subst (λ vs. IsAbsAt ctx y vs w) ei (at ctx n (subst (λ vs. NormalForms ctx vs ks vs) (sym ei) ns)))
    (et ∙ ap (λ vs. Term.Get (Term.Call (insts d vs) (Term.Call c e)) (result_label f)) ea) eu

-- sequences

-- a binding's signature at its types, bound to its term around the rest with the types put in
pub bound-given : (x : Abs) (ts items again : List Ty) (e g d c out : Term) (n : Sig) (from : Ty)
    → items ≡ ts → again ≡ ts
    → ((ctx : List Kind) → NormalAbs ctx x → NormalForms ctx items (kinds_of x) items → IsSigAt ctx (body_of x) items n)
    → from ≡ enc n
    → ((ctx ks : List Kind) → NormalTerm (extend ctx ks) d → NormalForms ctx again ks again → Instance (extend ctx ks) ctx (puts again Ty.Var) d c)
    → g ≡ e → out ≡ let_in from g c
    → (n : Sig) × (c : Term)
    × ((ctx : List Kind) → NormalAbs ctx x → NormalForms ctx ts (kinds_of x) ts → IsSigAt ctx (body_of x) ts n)
    × ((ctx ks : List Kind) → NormalTerm (extend ctx ks) d → NormalForms ctx ts ks ts → Instance (extend ctx ks) ctx (puts ts Ty.Var) d c)
    × (out ≡ let_in (enc n) e c)
bound-given x ts items again e g d c out n from ei ea at ef put eg eo = (
  n,
  c,
  subst (λ vs. (ctx : List Kind) → NormalAbs ctx x → NormalForms ctx vs (kinds_of x) vs → IsSigAt ctx (body_of x) vs n) ei at,
  subst (λ vs. (ctx ks : List Kind) → NormalTerm (extend ctx ks) d → NormalForms ctx vs ks vs → Instance (extend ctx ks) ctx (puts vs Ty.Var) d c) ea put,
  eo ∙ ap₂ (λ t u. let_in t u c) ef eg,
)

-- a pure binding before a pure rest makes a pure module, which keeps the types of both
pub sequence-pure : (f h : Effect) (x y z : Abs) (ts us ns : List Ty) (e d c term : Term) (n : Sig)
    → ((ctx : List Kind) → NormalAbs ctx x → NormalForms ctx ts (kinds_of x) ts → IsSigAt ctx (body_of x) ts n)
    → ((ctx ks : List Kind) → NormalTerm (extend ctx ks) d → NormalForms ctx ts ks ts → Instance (extend ctx ks) ctx (puts ts Ty.Var) d c)
    → z ≡ Abs.Ex (kinds_of x ++ kinds_of y) (body_of y) → ns ≡ ts ++ map (ty_in (putting ts)) us → term ≡ let_in (enc n) e c
    → f ≡ Pure → h ≡ Pure
    → (ctx : List Kind) → KindedModule ctx (made f x ts e) → KindedModule (extend ctx (kinds_of x)) (made h y us d)
    → Seq ctx (made f x ts e) (made h y us d) (made Pure z ns term)
sequence-pure f h (Abs.Ex ks s) (Abs.Ex js t) z ts us ns e d c term n at put ez en et ef eh ctx a b =
    let first : KindedModule ctx (made Pure (Abs.Ex ks s) ts e) = subst (λ g. KindedModule ctx (made g (Abs.Ex ks s) ts e)) ef a in
    let rest : KindedModule (extend ctx ks) (made Pure (Abs.Ex js t) us d) = subst (λ g. KindedModule (extend ctx ks) (made g (Abs.Ex js t) us d)) eh b in
    let all : made Pure (Abs.Ex (ks ++ js) t) (ts ++ map (ty_in (putting ts)) us) (let_in (enc n) e c) ≡ made Pure z ns term = sym (ap (λ u. made Pure u ns term) ez ∙ (ap (λ u. made Pure (Abs.Ex (ks ++ js) t) u term) en ∙ ap (made Pure (Abs.Ex (ks ++ js) t) (ts ++ map (ty_in (putting ts)) us)) et)) in
    subst (λ g. Seq ctx (made g (Abs.Ex ks s) ts e) (made h (Abs.Ex js t) us d) (made Pure z ns term)) (sym ef)
    (subst (λ g. Seq ctx (made Pure (Abs.Ex ks s) ts e) (made g (Abs.Ex js t) us d) (made Pure z ns term)) (sym eh)
    (subst (Seq ctx (made Pure (Abs.Ex ks s) ts e) (made Pure (Abs.Ex js t) us d)) all
    (Seq.both_pure (at ctx first.0.1 first.1) (types-put ts us ctx ks js first.1 rest.1) (put ctx ks rest.2 first.1))))

both-kinded : (ctx ks js : List Kind) (t : Sig) → KindedAbs (extend ctx ks) (Abs.Ex js t) → KindedAbs ctx (Abs.Ex (ks ++ js) t)
both-kinded ctx ks js t ok = (ok.0, subst (λ c. NormalSig c t) (sym (extend-append ks js ctx)) ok.1)

-- a binding before a rest, one of them impure, makes an impure module
pub sequence-impure : (f h : Effect) (x y z : Abs) (ts us ns : List Ty) (e d term : Term)
    → z ≡ Abs.Ex (kinds_of x ++ kinds_of y) (body_of y) → ns ≡ [] → OpenedTerm x (made f x ts e) (made h y us d) z term
    → joined f h ≡ Impure
    → (ctx : List Kind) → KindedModule ctx (made f x ts e) → KindedModule (extend ctx (kinds_of x)) (made h y us d)
    → Seq ctx (made f x ts e) (made h y us d) (made Impure z ns term)
sequence-impure f h (Abs.Ex ks s) (Abs.Ex js t) z ts us ns e d term ez en o j ctx a b =
    let whole : KindedAbs ctx (Abs.Ex (ks ++ js) t) = both-kinded ctx ks js t b.0 in
    let again : PackedAgain ks (Abs.Ex (ks ++ js) t) (past_opens ks o.1) o.2 = subst (λ u. PackedAgain ks u (past_opens ks o.1) o.2) ez o.5 in
    let packs : Packs (extend ctx ks) (vars ks) (past_opens ks o.1) (raise ks (enc_abs (Abs.Ex (ks ++ js) t))) o.2 = again ctx (fills_both ctx ks js t whole.0 whole.1) in
    let all : made Impure (Abs.Ex (ks ++ js) t) [] (opens ks o.0 (enc_abs (Abs.Ex ks s)) o.2) ≡ made Impure z ns term = sym (ap (λ u. made Impure u ns term) ez ∙ (ap (λ u. made Impure (Abs.Ex (ks ++ js) t) u term) en ∙ ap (made Impure (Abs.Ex (ks ++ js) t) []) o.6)) in
    subst (Seq ctx (made f (Abs.Ex ks s) ts e) (made h (Abs.Ex js t) us d)) all (Seq.some_impure j (o.3 ctx a) (o.4 (extend ctx ks) b) packs)

-- the term of such a row opens the binding, then the rest, and packs all types again
pub opened-term : (x : Abs) (first rest : Module) (z : Abs) (ks js : List Kind) (p q r last term : Term)
    → ((ctx : List Kind) → KindedModule ctx first → Packed ctx first p) → ((ctx : List Kind) → KindedModule ctx rest → Packed ctx rest q)
    → last ≡ past_opens ks q → ks ≡ kinds_of x → PackedAgain js z last r → js ≡ kinds_of x → term ≡ opens (kinds_of x) p (enc_abs x) r
    → OpenedTerm x first rest z term
opened-term x first rest z ks js p q r last term hp hq el ek hr ej et =
    (p, q, r, hp, hq, subst (λ ls. PackedAgain ls z (past_opens (kinds_of x) q) r) ej (subst (λ u. PackedAgain js z u r) (el ∙ ap (λ ls. past_opens ls q) ek) hr), et)

-- includes

-- an include of what is no structure is refused
pub include_no-structure : (f : Effect) (x : Abs) (ts : List Ty) (e : Term) (b : Sig) → b ≡ body_of x → ((fs : SigRow) → b ≡ Sig.Str fs → ⊥) → IncludeRefuses (made f x ts e) NotStructure
include_no-structure f (Abs.Ex ks s) ts e b eb h = IncludeRefuses.no_structure (λ fs q. h fs (eb ∙ q))

lets-kinded : (ctx : List Kind) (i : ℕ) (fs : SigRow) (d : Term) → DistinctRow fs → NormalSigRow ctx fs → NormalTerm ctx d → NormalTerm ctx (field_lets i fs d)
lets-kinded ctx i SigRow.End d w n h = h
lets-kinded ctx i (SigRow.More l s rest) d w n h =
    Instance.call (Instance.lam (type-self (distinct-normal s w.1 n.0)) (lets-kinded ctx (suc i) rest d w.2 n.1 h)) (Instance.get Instance.var)

-- an include makes the row of its module and the rest, with the fields bound one by one
pub include-given : (f h : Effect) (x y : Abs) (ts us : List Ty) (e d c : Term) (b : Sig) (fs : SigRow) (m : Module)
    → b ≡ body_of x → b ≡ Sig.Str fs → c ≡ field_lets 0 fs d
    → ((ctx : List Kind) → KindedModule ctx (made f x ts e) → KindedModule (extend ctx (kinds_of x)) (made h y us c) → Seq ctx (made f x ts e) (made h y us c) m)
    → (ctx : List Kind) → KindedModule ctx (made f x ts e) → KindedModule (extend ctx (kinds_of x)) (made h y us d) → IncludeGives ctx (made f x ts e) (made h y us d) m
include-given f h (Abs.Ex ks s) (Abs.Ex js t) ts us e d c b fs m eb es ec seq ctx ok rest =
    let same : s ≡ Sig.Str fs = sym eb ∙ es in
    let good : KindedModule ctx (made f (Abs.Ex ks (Sig.Str fs)) ts e) = subst (λ s. KindedModule ctx (made f (Abs.Ex ks s) ts e)) same ok in
    let lets : NormalTerm (extend ctx ks) (field_lets 0 fs d) = lets-kinded (extend ctx ks) 0 fs d good.0.0 good.0.1 rest.2 in
    let inner : KindedModule (extend ctx ks) (made h (Abs.Ex js t) us (field_lets 0 fs d)) = (rest.0, rest.1, lets) in
    let told : made h (Abs.Ex js t) us c ≡ made h (Abs.Ex js t) us (field_lets 0 fs d) = ap (made h (Abs.Ex js t) us) ec in
    let given : Seq ctx (made f (Abs.Ex ks s) ts e) (made h (Abs.Ex js t) us (field_lets 0 fs d)) m = subst (λ r. KindedModule (extend ctx ks) r → Seq ctx (made f (Abs.Ex ks s) ts e) r m) told (seq ctx ok) inner in
    subst (λ s. IncludeGives ctx (made f (Abs.Ex ks s) ts e) (made h (Abs.Ex js t) us d) m) (sym same)
    (IncludeGives.include (subst (λ s. Seq ctx (made f (Abs.Ex ks s) ts e) (made h (Abs.Ex js t) us (field_lets 0 fs d)) m) same given))
