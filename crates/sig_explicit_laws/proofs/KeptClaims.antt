-- The operations keep signatures ordered explicit, as the contract says it.
-- Main results: sequence_keeps, lift_keeps, generative_keeps, fixing_keeps, instance_keeps.
use Rattle.std.specs.Prelude.{List}
use Rattle.omega_kinds.specs.Kind.{Kind}
use Rattle.omega_kinds.specs.Name.{Name}
use Rattle.sig_definitions.specs.Signatures.Sig.{Sig, Abs, SigRow, HasField, here, there, NoField}
use Rattle.sig_definitions.specs.Explicit.WellFormed.{Rising, Explicit, explicit}
use Rattle.sig_explicit_laws.proofs.Fields.{Apart, none, next}
use Rattle.sig_explicit_laws.proofs.Sequences.{sequence_explicit, row-of}
use Rattle.sig_explicit_laws.proofs.Fixings.{fixed_explicit}
use Rattle.sig_explicit_laws.proofs.Operations.{lift_explicit, lift_well_formed, generative_explicit, instance_explicit, outside_explicit}
use Rattle.sig_laws.proofs.Formed.WellFormedShape.{after-differs}
use Rattle.sig_explicit_laws.specs.Kept.{SequenceKeeps, LiftKeeps, LiftKeepsWellFormed, GenerativeKeeps, FixingKeeps, InstanceKeeps, OutsideKeeps}

apart-of : (fs gs : SigRow) → Rising fs → ((l : Name) (s : Sig) → HasField fs l s → NoField l gs) → Apart fs gs
apart-of SigRow.End gs r h = none
apart-of (SigRow.More l s fs) gs r h = next (h l s here) (apart-of fs gs r.1 (λ m t f. h m t (there (after-differs l m r.0 f) f)))

fields-rise : {ctx ks : List Kind} {fs : SigRow} → Explicit ctx (Abs.Ex ks (Sig.Str fs)) → Rising fs
fields-rise (explicit w r e) = (row-of w).0

-- declarations of different names, one after the other, are ordered explicit if each is
pub sequence_keeps : SequenceKeeps
sequence_keeps ctx ks js fs gs h e f = sequence_explicit ctx ks js fs gs e f (apart-of fs gs (fields-rise e) h)

-- lifting keeps signatures ordered explicit
pub lift_keeps : LiftKeeps
lift_keeps ctx ks s x y e f l = lift_explicit e f l

-- lifting keeps signatures well formed
pub lift_keeps_formed : LiftKeepsWellFormed
lift_keeps_formed ctx ks s x y e f l = lift_well_formed e f l

-- a generative functor is ordered explicit if its parameter and its result are
pub generative_keeps : GenerativeKeeps
generative_keeps ctx ks s x e f = generative_explicit e f

-- fixing a hidden type keeps a signature ordered explicit
pub fixing_keeps : FixingKeeps
fixing_keeps ctx before after k s u h e = fixed_explicit before after k u ctx s h e

-- types of the right kinds, put in, keep a signature ordered explicit
pub instance_keeps : InstanceKeeps
instance_keeps ctx ks ts x y k e n = instance_explicit k e n

-- a signature that mentions no hidden type is ordered explicit outside of them too
pub outside_keeps : OutsideKeeps
outside_keeps ctx ks x y n e c f = outside_explicit ks e c f
