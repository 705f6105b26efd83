-- The norms of convertible signatures, and the conditions on root paths, up to conversion.
-- Main results: norm_abs-conv, same_abs-conv.
use Rattle.std.specs.Prelude.{ℕ, List}
use Rattle.std.proofs.Math.Path.{refl}
use Rattle.omega_kinds.specs.Kind.{Kind}
use Rattle.omega_types.specs.Conversion.Conv.{c_sym}
use Rattle.omega_types.specs.Binders.{extend}
use Rattle.sig_definitions.specs.Signatures.Sig.{Sig, Abs, SigRow}
use Rattle.sig_definitions.specs.Signatures.Alike.{AlikeRow, val, typ, meta, str, fun, ex, end, more, ConvBetween, ConvSig, ConvAbs}
use Rattle.sig_definitions.specs.Explicit.SigPath.{SigPath}
use Rattle.sig_definitions.specs.Explicit.RootPath.{Rooted, ParamsAvoid}
use Rattle.sig_definitions.specs.QuantifierOrder.{Counts, counts, Taking, done, next, renumber, NormSig, Norm, NormRow}
use Rattle.sig_laws.proofs.Algebra.AlikeLaws.{alike-sym_row, conv_sig-sym}
use Rattle.sig_laws.proofs.Algebra.PathLaws.{field-alike, param-alike}
use Rattle.sig_laws.proofs.Formed.Shows.{rooted-shows, shows-rooted, shows-alike}
use Rattle.sig_laws.proofs.Formed.WellFormedLaws.{avoids-alike, conv_sig-rename, conv_abs-rename}
use Rattle.sig_laws.proofs.Formed.NormGood.{reorder-maps}
use Rattle.sig_package_laws.specs.Conditions.{RootsIn, SameNumbers, EachAbs, EachSig, SameAbs, SameSig}

-- paths

rooted-conv : {ctx : List Kind} {s t : Sig} {i : ℕ} {p : SigPath} → ConvSig ctx s t → Rooted ctx s i p → Rooted ctx t i p
rooted-conv c x = shows-rooted refl (shows-alike (rooted-shows x) c)

params-conv : {ctx : List Kind} {s t : Sig} {i : ℕ} {p : SigPath} → ConvSig ctx s t → ParamsAvoid ctx s p i → ParamsAvoid ctx t p i
params-conv {ctx} c a ds js q on = let w = param-alike ctx on (conv_sig-sym c) in avoids-alike w.2 (a ds js w.0 w.1)

roots-conv : (ctx ks : List Kind) {s t : Sig} {p : SigPath} → ConvSig (extend ctx ks) s t → RootsIn ctx ks s p → RootsIn ctx ks t p
roots-conv ctx ks c x = (x.0, x.1, rooted-conv c x.2)

-- orders

counts-conv : {ctx ks : List Kind} {s t : Sig} {taken : List ℕ} {v : ℕ} {p : SigPath} → ConvSig (extend ctx ks) s t → Counts ctx ks s taken v p → Counts ctx ks t taken v p
counts-conv c (counts u x a) = counts u (rooted-conv c x) (λ j h. params-conv c (a j h))

taking-conv : {ctx ks : List Kind} {s t : Sig} {taken order : List ℕ} → ConvSig (extend ctx ks) s t → Taking ctx ks s taken order → Taking ctx ks t taken order
taking-conv c (done g) = done g
taking-conv c (next x g rest) = next (counts-conv c x) (λ j q d. g j q (counts-conv (conv_sig-sym c) d)) (taking-conv c rest)

-- a signature that is convertible has a norm that is convertible
mutual
  pub norm-conv : {ctx : List Kind} {s t z : Sig} → NormSig ctx s t → ConvSig ctx s z → (u : Sig) × NormSig ctx z u × ConvSig ctx t u
  norm-conv NormSig.val (val {u = u} c) = (Sig.Val u, NormSig.val, val c)
  norm-conv NormSig.typ (typ {u = u} {k = k} c) = (Sig.Typ u k, NormSig.typ, typ c)
  norm-conv (NormSig.meta x) (meta c) = let w = norm_abs-conv x c in (Sig.Meta w.0, NormSig.meta w.1, meta w.2)
  norm-conv (NormSig.str fs) (str c) = let w = norm_row-conv fs c in (Sig.Str w.0, NormSig.str w.1, str w.2)
  norm-conv (NormSig.pure a b) (fun c (ex d)) = let w = norm-conv a c in let v = norm-conv b d in (_, NormSig.pure w.1 v.1, fun w.2 (ex v.2))
  norm-conv {ctx} (NormSig.impure {ks = ks} {order = order} a o x) (fun c d) =
      let w = norm-conv a c in
      let v = norm_abs-conv x d in
      let m = reorder-maps o ctx in
      (_, NormSig.impure w.1 (taking-conv w.2 o) v.1, fun (conv_sig-rename (renumber ks order) m w.2) (conv_abs-rename (renumber ks order) m v.2))

  -- the norms of convertible signatures are convertible
  pub norm_abs-conv : {ctx : List Kind} {x y z : Abs} → Norm ctx x y → ConvAbs ctx x z → (u : Abs) × Norm ctx z u × ConvAbs ctx y u
  norm_abs-conv {ctx} (Norm.ex {ks = ks} {order = order} a o) (ex c) =
      let w = norm-conv a c in
      (_, Norm.ex w.1 (taking-conv w.2 o), ex (conv_sig-rename (renumber ks order) (reorder-maps o ctx) w.2))

  pub norm_row-conv : {ctx : List Kind} {fs gs hs : SigRow} → NormRow ctx fs gs → AlikeRow ConvBetween ctx fs hs → (us : SigRow) × NormRow ctx hs us × AlikeRow ConvBetween ctx gs us
  norm_row-conv NormRow.end end = (SigRow.End, NormRow.end, end)
  norm_row-conv (NormRow.more {l = l} a rest) (more c cs) = let w = norm-conv a c in let v = norm_row-conv rest cs in (SigRow.More l w.0 v.0, NormRow.more w.1 v.1, more w.2 v.2)

-- the conditions hold of convertible signatures

numbers-conv : (ctx ks other js : List Kind) {s t a b : Sig} → ConvSig (extend ctx ks) s a → ConvSig (extend other js) t b → SameNumbers ctx ks s other js t → SameNumbers ctx ks a other js b
numbers-conv ctx ks other js c d n i p lt x = let w = n i p lt (rooted-conv (conv_sig-sym c) x) in (w.0, rooted-conv d w.1)

row-sym : {ctx : List Kind} {fs gs : SigRow} → AlikeRow ConvBetween ctx fs gs → AlikeRow ConvBetween ctx gs fs
row-sym c = alike-sym_row (λ c t k u r. c_sym r) c

mutual
  pub same-conv : {ctx other : List Kind} {s t a b : Sig} → SameSig ctx other s t → ConvSig ctx s a → ConvSig other t b → SameSig ctx other a b
  same-conv EachSig.val (val c) (val d) = EachSig.val
  same-conv EachSig.typ (typ c) (typ d) = EachSig.typ
  same-conv (EachSig.meta x) (meta c) (meta d) = EachSig.meta (same_abs-conv x c d)
  same-conv (EachSig.str h) (str c) (str d) = EachSig.str (λ l s t f g.
      let v = field-alike (row-sym c) f in
      let w = field-alike (row-sym d) g in
      same-conv (h l v.0 w.0 v.1 w.1) (conv_sig-sym v.2) (conv_sig-sym w.2))
  same-conv {ctx} {other} (EachSig.pure {ks = ks} {js = js} (n, m) x y) (fun c (ex e)) (fun d (ex f)) = EachSig.pure (numbers-conv ctx ks other js c d n, numbers-conv other js ctx ks d c m) (same-conv x c d) (same-conv y e f)
  same-conv (EachSig.impure x y) (fun c e) (fun d f) = EachSig.impure (same_abs-conv x (ex c) (ex d)) (same_abs-conv y e f)
  same-conv (EachSig.mixed h) (fun c e) (fun d f) = EachSig.mixed h

  -- conversion keeps what is rooted at the same paths
  pub same_abs-conv : {ctx other : List Kind} {x y a b : Abs} → SameAbs ctx other x y → ConvAbs ctx x a → ConvAbs other y b → SameAbs ctx other a b
  same_abs-conv {ctx} {other} (EachAbs.ex {ks = ks} {js = js} (f, g) x) (ex c) (ex d) = EachAbs.ex
      (λ p r. roots-conv other js d (f p (roots-conv ctx ks (conv_sig-sym c) r)), λ p r. roots-conv ctx ks c (g p (roots-conv other js (conv_sig-sym d) r)))
      (same-conv x c d)
