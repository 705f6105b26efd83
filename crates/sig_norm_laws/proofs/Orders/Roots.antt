-- Each variable has a least root path, or none.
-- Main results: roots.
use Rattle.std.specs.Prelude.{ℕ, ◌<◌, ◌≤◌, List, length}
use Rattle.std.proofs.Math.Decide.{dec_le, dec_lt}
use Rattle.omega_kinds.specs.Kind.{Kind}
use Rattle.omega_types.specs.Ty.{Ty}
use Rattle.omega_types.specs.Binders.{extend, own}
use Rattle.sig_definitions.specs.Signatures.Sig.{Sig}
use Rattle.sig_definitions.specs.Signatures.Alike.{ConvSig}
use Rattle.sig_definitions.specs.Explicit.SigPath.{SigPath, PartAt}
use Rattle.sig_definitions.specs.Explicit.RootPath.{Rooted, at, ParamsAvoid, RootPath, root_path, LeastRoot, least, root_of}
use Rattle.sig_laws.proofs.Formed.RootNumbers.{own_falls, by_numbers, rooted-of}
use Rattle.sig_definitions.specs.Explicit.WellFormed.{WellFormed}
use Rattle.sig_laws.proofs.Formed.WellFormedLaws.{well_formed-kinds}
use Rattle.sig_norm_laws.proofs.Orders.Decided.{rooted_dec, params_dec}
use Rattle.sig_norm_laws.proofs.Orders.OrderExists.{all_below, LeastPath, least_path}

root-part : {ctx : List Kind} {s : Sig} {i : ℕ} {p : SigPath} {C : Type 0} → Rooted ctx s i p → ((bs : List Kind) (t : Ty) (k : Kind) → PartAt s p bs (Sig.Typ t k) → C) → C
root-part (at {bs = bs} {t = t} {k = k} x c) f = f bs t k x

root_dec : (ctx ks : List Kind) (s : Sig) (i : ℕ) (p : SigPath) (bs : List Kind) (t : Ty) (k : Kind) → ConvSig (extend ctx ks) s s → PartAt s p bs (Sig.Typ t k) → Dec (RootPath ctx ks s i p)
root_dec ctx ks s i p bs t k c x = go (dec_lt i (length ks)) (rooted_dec (own ks i) c x) (all_below (length ks) (λ j. i ≤ j → ParamsAvoid (extend ctx ks) s p (own ks j)) (λ j. each j (dec_le i j) (params_dec p (extend ctx ks) s (own ks j) c)))
  where
    each : (j : ℕ) → Dec (i ≤ j) → Dec (ParamsAvoid (extend ctx ks) s p (own ks j)) → Dec (i ≤ j → ParamsAvoid (extend ctx ks) s p (own ks j))
    each j d (yes a) = yes (λ e. a)
    each j (yes e) (no a) = no (λ f. a (f e))
    each j (no e) (no a) = yes (λ f. absurd (e f))

    avoids-of : RootPath ctx ks s i p → (j : ℕ) → j < length ks → i ≤ j → ParamsAvoid (extend ctx ks) s p (own ks j)
    avoids-of (root_path b (root_of r a)) j lt le = a (own ks j) (own_falls ks i j le)

    bound : RootPath ctx ks s i p → i < length ks
    bound (root_path b r) = b

    go : Dec (i < length ks) → Dec (Rooted (extend ctx ks) s (own ks i) p) → Dec ((j : ℕ) → j < length ks → i ≤ j → ParamsAvoid (extend ctx ks) s p (own ks j)) → Dec (RootPath ctx ks s i p)
    go (yes b) (yes r) (yes a) = yes (by_numbers b r (λ j le lt. a j lt le))
    go (no b) d e = no (λ q. b (bound q))
    go (yes b) (no r) d = no (λ q. r (rooted-of q))
    go (yes b) (yes r) (no a) = no (λ q. a (avoids-of q))

-- a hidden type has a least root path, or no root path
pub data Roots (ctx ks : List Kind) (s : Sig) (i : ℕ) : Type 0 where
  found : (p : SigPath) → LeastRoot ctx ks s i p → Roots ctx ks s i
  none : ((p : SigPath) → RootPath ctx ks s i p → ⊥) → Roots ctx ks s i

-- a hidden type has a least root path, or no root path
pub roots : (ctx ks : List Kind) (s : Sig) (i : ℕ) → WellFormed (extend ctx ks) s → Roots ctx ks s i
roots ctx ks s i w = go (least_path s (RootPath ctx ks s i) w (λ p bs t k x. root_dec ctx ks s i p bs t k (well_formed-kinds w) x))
  where
    go : LeastPath s (RootPath ctx ks s i) → Roots ctx ks s i
    go (LeastPath.found p r h) = Roots.found p (least r (λ q o b. root-part (rooted-of o) (λ bs t k x. h q bs t k x o b)))
    go (LeastPath.none h) = Roots.none (λ p o. root-part (rooted-of o) (λ bs t k x. h p bs t k x o))
