-- Well formed signatures have distinct labels, and the results of their pure functors hide nothing.
-- Main results: well_formed-good, well_formed_abs-good.
use Rattle.std.specs.Prelude.{List, IsTrue, ◌≢◌}
use Rattle.std.proofs.Math.Path.{sym, subst}
use Rattle.omega_kinds.specs.Kind.{Kind}
use Rattle.omega_kinds.specs.declared.label.Label.{Label}
use Rattle.omega_kinds.specs.Name.{Name}
use Rattle.omega_kinds.specs.LabelOrder.{name_before}
use Rattle.omega_kinds.proofs.LabelLaws.{irreflexive}
use Rattle.sig_definitions.specs.Signatures.Sig.{Sig, Abs, SigRow, NoField, HasField, Module, made}
use Rattle.sig_definitions.specs.Signatures.Alike.{NormalSig, NormalAbs}
use Rattle.sig_definitions.specs.Explicit.WellFormed.{BeforeAll, Rising, WellFormed, WellFormedRow, WellFormedAbs, Explicit}
use Rattle.sig_laws.specs.Good.{KindedModule, OkModule}
use Rattle.sig_laws.proofs.Encoded.EncodingTyping.{Shape, ShapeAbs, ShapeRow, Good, GoodAbs, shape_abs-distinct}
use Rattle.sig_laws.proofs.Algebra.PathLaws.{field-not}

-- a name before all of the fields has no field
pub before-no_field : (l : Name) (fs : SigRow) → BeforeAll l fs → NoField l fs
before-no_field l SigRow.End h = tt
before-no_field l (SigRow.More m s rest) h = (λ e. irreflexive (Label.Name l) (subst (λ x. IsTrue (name_before l x)) (sym e) h.0), before-no_field l rest h.1)

-- the name of a field is not one that comes before all of the fields
pub after-differs : (m l : Name) {q : Sig} {fs : SigRow} → BeforeAll m fs → HasField fs l q → l ≢ m
after-differs m l {fs = fs} b h = field-not h (before-no_field m fs b)

mutual
  -- in a well formed signature names differ, and the results of pure functors hide nothing
  pub well_formed-shape : {ctx : List Kind} {s : Sig} → WellFormed ctx s → Shape s
  well_formed-shape (WellFormed.val h) = tt
  well_formed-shape (WellFormed.typ h) = tt
  well_formed-shape (WellFormed.meta x) = explicit-shape x
  well_formed-shape (WellFormed.str r w) = well_formed_row-shape r w
  well_formed-shape (WellFormed.pure x w) = (explicit-shape x, well_formed-shape w, tt)
  well_formed-shape (WellFormed.impure x w) = (explicit-shape x, well_formed_abs-shape w, tt)

  pub well_formed_row-shape : {ctx : List Kind} {fs : SigRow} → Rising fs → WellFormedRow ctx fs → ShapeRow fs
  well_formed_row-shape r WellFormedRow.end = tt
  well_formed_row-shape r (WellFormedRow.more {l = l} {rest = rest} w ws) = (before-no_field l rest r.0, well_formed-shape w, well_formed_row-shape r.1 ws)

  -- in a well formed signature that hides types names differ, and the results of pure functors hide nothing
  pub well_formed_abs-shape : {ctx : List Kind} {x : Abs} → WellFormedAbs ctx x → ShapeAbs x
  well_formed_abs-shape (WellFormedAbs.abs w) = well_formed-shape w

  -- in an ordered explicit signature names differ, and the results of pure functors hide nothing
  pub explicit-shape : {ctx : List Kind} {x : Abs} → Explicit ctx x → ShapeAbs x
  explicit-shape (Explicit.explicit w e r) = well_formed-shape w

-- a well formed and normal signature is good, that is normal with names that differ and pure results that hide nothing
pub well_formed-good : {ctx : List Kind} {s : Sig} → WellFormed ctx s → NormalSig ctx s → Good ctx s
well_formed-good w n = record { normal = n; shape = well_formed-shape w }

-- a well formed and normal signature that hides types is good
pub well_formed_abs-good : {ctx : List Kind} {x : Abs} → WellFormedAbs ctx x → NormalAbs ctx x → GoodAbs ctx x
well_formed_abs-good w n = record { normal = n; shape = well_formed_abs-shape w }

-- what is well formed with normal types has types of their kinds, and names that differ
pub kinded : (ctx : List Kind) (M : Module) → OkModule ctx M → KindedModule ctx M
kinded ctx (made f (Abs.Ex ks s) ts e) ok = ((shape_abs-distinct (Abs.Ex ks s) (well_formed_abs-shape ok.0.0), ok.0.1), ok.1, ok.2)
