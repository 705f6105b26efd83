-- Declarations in a row, and what the rules over signatures give in an environment.
-- Main results: decls-mean, row-means, left-decl.
use Rattle.std.proofs.Common.{◌≡◌, ℕ, ◌+◌, ◌<◌, ◌≤◌, get_or, true, Result, IfOk, List, [], length, drop, map, refl, sym, ap, ◌∙◌, subst, subst₂}
use Rattle.omega_kinds.specs.Kind.{Kind}
use Rattle.omega_kinds.specs.Name.{Name}
use Rattle.omega_kinds.specs.View.{kind_tree}
use Rattle.omega_kinds.specs.declared.kind.Kind.{Kind as SharedKind}
use Rattle.omega_types.specs.Binders.{extend, past}
use Rattle.sig_definitions.specs.Env.{Env, kinds, type_vars, with_module, named_fields}
use Rattle.sig_definitions.specs.Lifting.{Lift}
use Rattle.sig_definitions.specs.Signatures.FieldOrder.{with_names}
use Rattle.sig_definitions.specs.Signatures.RecordOrder.{AreNew}
use Rattle.sig_definitions.specs.Signatures.Sig.{Sig, Abs, SigRow, Module}
use Rattle.sig_definitions.specs.Signatures.SigSubst.{raise_sig_row}
use Rattle.sig_laws.specs.Good.{OkSig, OkRow, OkRight, OkEnv, KindedModule}
use Rattle.sig_laws.proofs.Formed.Conditions.{explicit-right, str-fields}
use Rattle.sig_laws.proofs.Formed.WellFormedShape.{kinded}
use Rattle.sig_laws.proofs.Algebra.FormLaws.{kinds-type_vars}
use Rattle.sig_premise_laws.proofs.Environments.{good-type_fields}
use Rattle.semantic_sigs.specs.Inner.Fields.{SigPairs, sig_row}
use Rattle.semantic_sigs.specs.Inner.View.{body_of, kinds_of}
use Rattle.fing_text.specs.declared.span.Span.{Span as SpanAt}
use Rattle.fing_syntax.specs.declared.leaf.SpanName.{SpanName as NameAt}
use Rattle.fing_syntax.specs.declared.tree.DeclWhat.{DeclWhat as DeclNode}
use Rattle.fing_syntax.specs.declared.tree.DeclWhat.TheVariants as decl_what_in
use Rattle.fing_syntax.specs.Phrase.{Span, SpanName, SigEx, SigAt, SigFun, Mod, Decl, Decls, MoreDecls}
use Rattle.fing_syntax.specs.Place.{name_of}
use Rattle.fing_syntax.specs.Inner.Size.{decl_size, decls_size}
use Rattle.fing_syntax.specs.Inner.View.{decl_of, decls}
use Rattle.sig_judgments.specs.SigRules.{AbstractGives, DeclarationsGive}
use Rattle.sig_rules.specs.Inner.Plain.{AreApart}
use Rattle.semantic_sigs.proofs.MentionSteps.{length-trees}
use Rattle.elab_judgments.specs.Judgments.Meaning.{SigMeans, DeclMeans, DeclsMean, ModMeans}
use Rattle.elab_judgments.specs.Refusals.Task.{decls as decls_task}
use Rattle.elab_laws.proofs.FieldLaws.{Apart, NoFields, no_fields-end, new-no_fields, no_fields-merge, no_fields-rename, with_names-no_fields}
use Rattle.elab_laws.proofs.Kept.{decl_ok, mod_ok, sig_ok}
use Rattle.fing_refusals.specs.declared.refusal.Refusal.{Refusal as CodeRefusal}
use Rattle.elab_rules.specs.Inner.Answered.{RefusedAs}
use Rattle.elab_rules.specs.Inner.Fields.{fields_in}
use Rattle.elab_rules.proofs.Entering.{left-type_vars, left-module, left-fields}
use Rattle.elab_rules.proofs.Given.{ok-map}
use Rattle.elab_phrases.proofs.Means.{applicative-means, decl-structure, decl-whole, param-env}
use Rattle.elab_rules.proofs.Slices.{empty, first-rest, rest-of}

-- a declaration and those after it

-- the body of what a declaration means is the structure of its fields
pub decl-body : {g : Env} {d : Decl} (x : Abs) → DeclMeans g d x → body_of x ≡ Sig.Str (fields_in x)
decl-body x p = ap body_of (decl-whole x p)

pub decl-env : (g : Env) (d : Decl) (x : Abs) → OkEnv g → DeclMeans g d x → OkEnv (named_fields (type_vars g (kinds_of x)) (fields_in x))
decl-env g d (Abs.Ex ks s) h p =
    let w = decl_ok g d (Abs.Ex ks s) h p in
    let v = decl-structure p in
    let body : OkSig (extend (kinds g) ks) s = ((explicit-right w.0).0, w.1) in
    let whole : OkSig (extend (kinds g) ks) (Sig.Str v.0) = subst (λ u. OkSig (extend (kinds g) ks) u) v.1 body in
    let row : OkRow (extend (kinds g) ks) v.0 = (str-fields whole.0, whole.1) in
    subst (λ u. OkEnv (named_fields (type_vars g ks) (fields_in (Abs.Ex ks u)))) (sym v.1) (good-type_fields g ks v.0 h row)

decls-whole : {g : Env} {before : List Name} {ds : Decls} {y : Abs} → DeclsMean g before ds y → y ≡ Abs.Ex (kinds_of y) (Sig.Str (fields_in y))
decls-whole DeclsMean.no_decls = refl
decls-whole (DeclsMean.next_decl p n q DeclarationsGive.declarations) = refl

no-labels : {g : Env} {before : List Name} {ds : Decls} {y : Abs} → DeclsMean g before ds y → NoFields before (fields_in y)
no-labels (DeclsMean.no_decls {before = before}) = no_fields-end before
no-labels (DeclsMean.next_decl {before = before} {fs = fs} p n q (DeclarationsGive.declarations {js = js} {gs = gs})) =
    no_fields-merge before (raise_sig_row js fs) gs (no_fields-rename (past js) before fs (new-no_fields before fs n)) (with_names-no_fields fs before gs (no-labels q)).1

are-apart : (fs gs : SigRow) → Apart fs gs → AreApart fs gs
are-apart SigRow.End gs h = tt
are-apart (SigRow.More l s fs) gs h = (h.0, are-apart fs gs h.1)

-- declarations mean the first one in a row with those after it
pub decls-mean : {g : Env} {before : List Name} {d : Decl} {ds : Decls} (x y z : Abs)
    → DeclMeans g d x
    → AreNew (fields_in x) before
    → DeclsMean (named_fields (type_vars g (kinds_of x)) (fields_in x)) (with_names (fields_in x) before) ds y
    → ((ks js : List Kind) (fs gs : SigRow) → x ≡ Abs.Ex ks (Sig.Str fs) → y ≡ Abs.Ex js (Sig.Str gs) → AreApart fs gs → DeclarationsGive x y z)
    → DeclsMean g before (MoreDecls d ds) z
decls-mean {g} {before} {d} x y z p n q f =
    let ex = decl-whole x p in
    let apart = are-apart (fields_in x) (fields_in y) (with_names-no_fields (fields_in x) before (fields_in y) (no-labels q)).0 in
    let give = f (kinds_of x) (kinds_of y) (fields_in x) (fields_in y) ex (decls-whole q) apart in
    DeclsMean.next_decl (subst (DeclMeans g d) ex p) n q (subst (λ v. DeclarationsGive v y z) ex give)

-- what was entered is left again

-- the environment is as before when a parameter and the types that it hides are left
pub left-under : (g : Env) (x : Abs) (l : Name) (items : List SharedKind) (ks : List Kind) (n : ℕ) (before after : Env)
    → map kind_tree items ≡ ks → ks ≡ kinds_of x → n ≡ length items + 1
    → before ≡ with_module g (kinds_of x) l (body_of x) → after ≡ drop n before → after ≡ g
left-under g x l items ks n before after ei ek en eb e =
    let c : n ≡ length (kinds_of x) + 1 = en ∙ ap (λ m. m + 1) (sym (length-trees items) ∙ ap length (ei ∙ ek)) in
    e ∙ (ap (λ m. drop m before) c ∙ (ap (drop (length (kinds_of x) + 1)) eb ∙ left-module g (kinds_of x) l (body_of x)))

-- the environment is as before when the fields of a declaration and the types that it hides are left
pub left-decl : (g : Env) (ks : List Kind) (js : List Kind) (items : List SharedKind) (fields pairs : SigPairs) (before between after : Env)
    → pairs ≡ fields → map kind_tree items ≡ js → js ≡ ks
    → before ≡ named_fields (type_vars g ks) (sig_row fields)
    → between ≡ drop (length pairs) before → after ≡ drop (length items) between → after ≡ g
left-decl g ks js items fields pairs before between after ep ei ej eb em e =
    let m : between ≡ type_vars g ks = em ∙ (ap (λ (zs : SigPairs). drop (length zs) before) ep ∙ (ap (drop (length fields)) eb ∙ left-fields (type_vars g ks) fields)) in
    let c : length items ≡ length ks = sym (length-trees items) ∙ ap length (ei ∙ ej) in
    e ∙ (ap (λ n. drop n between) c ∙ (ap (drop (length ks)) m ∙ left-type_vars g ks))

-- a signature under the parameter of functors
right-under : (g : Env) (b : SigEx) (x y : Abs) (l : Name) → OkEnv (with_module g (kinds_of x) l (body_of x)) → SigMeans (with_module g (kinds_of x) l (body_of x)) b y → OkRight (extend (kinds g) (kinds_of x)) y
right-under g b x y l h m = subst (λ ctx. OkRight ctx y) (kinds-type_vars g (kinds_of x)) (sig_ok (with_module g (kinds_of x) l (body_of x)) b y h m)

-- an environment that is as before

-- a signature phrase means a signature that may stand on the right
pub sig-in : {g h : Env} {a : SigEx} {x : Abs} → h ≡ g → OkEnv g → SigMeans g a x → OkRight (kinds h) x
sig-in {g} {h} {a} {x} s o p = subst (λ e. OkRight (kinds e) x) (sym s) (sig_ok g a x o p)

-- a module phrase means a module of distinct names and normal types of the right kinds
pub module-in : {g h : Env} {m : Mod} {M : Module} → h ≡ g → OkEnv g → ModMeans g m M → KindedModule (kinds h) M
module-in {g} {h} {m} {M} s o p = subst (λ e. KindedModule (kinds e) M) (sym s) (kinded (kinds g) M (mod_ok g m M o p))

-- the environment with the parameter of a functor, and the types that it hides, is good
pub param-in : {g h : Env} {a : SigEx} (x : Abs) (l : Name) → h ≡ g → OkEnv g → SigMeans g a x → OkEnv (with_module h (kinds_of x) l (body_of x))
param-in {g} {h} {a} x l s o p = subst (λ e. OkEnv (with_module e (kinds_of x) l (body_of x))) (sym s) (param-env g a x l o p)

-- a signature of applicative functors
pub lifted-means : {g : Env} {at : Span} {z : SpanName} {a b : SigEx} (x y w : Abs)
    → OkEnv g
    → SigMeans g a x
    → SigMeans (with_module g (kinds_of x) (name_of z) (body_of x)) b y
    → ((ctx : List Kind) → OkRight ctx x → OkRight (extend ctx (kinds_of x)) y → Lift ctx (kinds_of x) (body_of x) y w)
    → SigMeans g (SigAt at (SigFun true z a b)) w
lifted-means {g} {z = z} {a = a} {b = b} x y w o p q f =
    applicative-means x p q (f (kinds g) (sig_ok g a x o p) (right-under g b x y (name_of z) (param-env g a x (name_of z) o p) q))

-- a declaration that hides a type

-- the declaration of a type of a kind means the signature that hides it
pub abstract-means : {E : Type 0} (g : Env) (d : Decl) (w : DeclNode) (at : SpanAt) (x : NameAt) (k : SharedKind) (r : Result Abs E) → decl_of at w ≡ d → w ≡ decl_what_in.TyOf x k → IfOk r (λ y. AbstractGives x.name (kind_tree k) y) → IfOk r (λ y. DeclMeans g d y)
abstract-means g d w at x k r ed ew h = ok-map r h (λ y p. subst (λ e. DeclMeans g e y) (ap (decl_of at) (sym ew) ∙ ed) (DeclMeans.decl_of p))

-- declarations in a list

-- a list of declarations is refused as its first one with the rest
pub refused-row : {g : Env} {before : List Name} {e : CodeRefusal} (list : List Decl) (d : Decl) → 1 ≤ length list → d ≡ get_or list 0 d → RefusedAs g (decls_task before (MoreDecls d (decls (rest-of list)))) e → RefusedAs g (decls_task before (decls list)) e
refused-row {g} {before} {e} list d h f r = subst (λ ds. RefusedAs g (decls_task before (decls ds)) e) (sym (first-rest list d h f)) r

-- a list of declarations means what its first one with the rest does
pub row-means : {g : Env} {before : List Name} {y : Abs} (list : List Decl) (d : Decl) → 1 ≤ length list → d ≡ get_or list 0 d → DeclsMean g before (MoreDecls d (decls (rest-of list))) y → DeclsMean g before (decls list) y
row-means {g} {before} {y} list d h f r = subst (λ ds. DeclsMean g before (decls ds) y) (sym (first-rest list d h f)) r

-- an empty list of declarations means the empty structure
pub no-row : {g : Env} {before : List Name} {y : Abs} (list : List Decl) → length list < 1 → y ≡ Abs.Ex [] (Sig.Str SigRow.End) → DeclsMean g before (decls list) y
no-row {g} {before} list h e = subst₂ (λ ds z. DeclsMean g before (decls ds) z) (sym (empty list h)) (sym e) DeclsMean.no_decls

-- the size of a list of declarations is that of its first one and the rest
pub row-size : (list : List Decl) (d : Decl) → 1 ≤ length list → d ≡ get_or list 0 d → decls_size (decls list) ≡ decl_size d + decls_size (decls (rest-of list)) + 1
row-size list d h f = ap (λ ds. decls_size (decls ds)) (first-rest list d h f)

-- a declaration before a row, in an environment that is as before

-- the environment with the fields of a declaration, and the types that it hides, is good
pub decl-in : {g h : Env} {d : Decl} (x : Abs) → h ≡ g → OkEnv g → DeclMeans g d x → OkEnv (named_fields (type_vars h (kinds_of x)) (fields_in x))
decl-in {g} {h} {d} x s o p = subst (λ e. OkEnv (named_fields (type_vars e (kinds_of x)) (fields_in x))) (sym s) (decl-env g d x o p)

-- type variables and then fields, pushed in the code, give the environment of a declaration
pub fields-env : (g before after : Env) (x : Abs) (fields : SigPairs) (ks : List Kind) → ks ≡ kinds_of x → sig_row fields ≡ fields_in x → before ≡ type_vars g ks → after ≡ named_fields before (sig_row fields) → after ≡ named_fields (type_vars g (kinds_of x)) (fields_in x)
fields-env g before after x fields ks ek ef eb ea = ea ∙ (λ i. named_fields ((eb ∙ ap (type_vars g) ek) i) (ef i))
