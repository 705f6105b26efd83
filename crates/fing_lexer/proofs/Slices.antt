-- The spans of tokens are in order, and each token is what the bytes of its span are.
-- Main results: sliced.
use Rattle.std.proofs.Common.{◌≡◌, ℕ, ◌+◌, ◌≤◌, Bool, true, false, refl, sym, ◌∙◌, ap, subst, subst₂, List, [], ◌∷◌, ◌++◌, length, take, drop, length-drop, arith}
use Rattle.std.specs.Prelude.{nat_le, if◌then◌else◌}
use Rattle.fing_lexer.specs.declared.token.What.{What}
use Rattle.fing_lexer.specs.declared.token.Token.{Token}
use Rattle.fing_lexer.specs.declared.lexer.LexRefusal.TheVariants.{Wide, TooDeep}
use Rattle.fing_lexer.specs.Lexeme.{lexeme}
use Rattle.fing_lexer.specs.Nest.{Nest, counted, opened, total}
use Rattle.fing_lexer.specs.Tokens.{Sliced, TokensOf, Lexes, done, go, Outcome, Good, Bad, Done, Go, step, prepend, Front, End, Skip, Found, NoText, NoByte, Stands, token_at, is_in_range}
use Rattle.fing_lexer.proofs.Going.{positive, skip_within, found_within}
use Rattle.fing_lexer.proofs.Found.{further}
use Rattle.fing_lexer.proofs.Laws.{not_both}

-- a later place asks for less
later : (bytes : List ℕ) (at n : ℕ) (ts : List Token) → Sliced bytes (at + n) ts → Sliced bytes at ts
later bytes at n [] h = tt
later bytes at n (t ∷ ts) h = (omega (arith, h.0), h.1, h.2, h.3, h.4)

-- a token that stands at a place, before tokens that stand behind it
front_sliced : (bytes : List ℕ) (at n : ℕ) (w : What) (ts : List Token) → at ≤ length bytes → Stands (drop at bytes) (Found n w) → Sliced bytes (at + n) ts → Sliced bytes at (token_at at n w ∷ ts)
front_sliced bytes at n w ts h s r = (
  omega arith,
  omega (arith, positive (drop at bytes) n w s),
  omega (arith, s.1.within, length-drop at bytes),
  ap (λ k. lexeme (take k (drop at bytes))) (omega arith) ∙ s.1.is,
  r,
)

not_bad : {r : Outcome} {ts : List Token} → Done r ≡ Done (Good ts) → r ≡ Good ts
not_bad e = cc

-- a text that ends gives no more tokens
no_more : (at : ℕ) (nest : Nest) (f : Front) (ts : List Token) → step at nest f ≡ Done (Good ts) → ts ≡ []
no_more at nest End ts e = let same : Good [] ≡ Good ts = not_bad e in let lists : [] ≡ ts = cc in sym lists
no_more at nest (Skip n) ts e = absurd (not_both (sym e))
no_more at nest (Found n w) ts e = by (is_in_range w) (nat_le (total (counted nest w)) 1000) e
  where
    by : (a b : Bool) → (if a then (if b then Go n (token_at at n w ∷ []) (opened (counted nest w) w) else Done (Bad (TooDeep at))) else Done (Bad (Wide at))) ≡ Done (Good ts) → ts ≡ []
    by true true e = absurd (not_both (sym e))
    by true false e = absurd (let bad : Bad (TooDeep at) ≡ Good ts = not_bad e in cc)
    by false b e = absurd (let bad : Bad (Wide at) ≡ Good ts = not_bad e in cc)
no_more at nest NoText ts e = absurd (let bad = not_bad e in cc)
no_more at nest NoByte ts e = absurd (let bad = not_bad e in cc)

-- how a text goes on: to a place within it, and the tokens behind that place may be put behind those at the start
record On (bytes : List ℕ) (at n : ℕ) (add : List Token) : Type 0 where
  within : at + n ≤ length bytes
  sliced : (us : List Token) → Sliced bytes (at + n) us → Sliced bytes at (add ++ us)

goes : (bytes : List ℕ) (at : ℕ) (nest : Nest) (f : Front) (n : ℕ) (add : List Token) (m : Nest) → at ≤ length bytes → Stands (drop at bytes) f → step at nest f ≡ Go n add m → On bytes at n add
goes bytes at nest End n add m h s e = absurd (not_both e)
goes bytes at nest (Skip k) n add m h s e =
    let sizes : k ≡ n = cc in
    let lists : [] ≡ add = cc in
    subst₂ (λ i ts. On bytes at i ts) sizes lists (record { within = skip_within bytes at k h s; sliced = λ us r. later bytes at k us r })
goes bytes at nest (Found k w) n add m h s e = by (is_in_range w) (nat_le (total (counted nest w)) 1000) e
  where
    by : (a b : Bool) → (if a then (if b then Go k (token_at at k w ∷ []) (opened (counted nest w) w) else Done (Bad (TooDeep at))) else Done (Bad (Wide at))) ≡ Go n add m → On bytes at n add
    by true true e =
        let sizes : k ≡ n = cc in
        let lists : token_at at k w ∷ [] ≡ add = cc in
        subst₂ (λ i ts. On bytes at i ts) sizes lists (record { within = found_within bytes at k w h s; sliced = λ us r. front_sliced bytes at k w us h s r })
    by true false e = absurd (not_both e)
    by false b e = absurd (not_both e)
goes bytes at nest NoText n add m h s e = absurd (not_both e)
goes bytes at nest NoByte n add m h s e = absurd (not_both e)

walk : (whole : List ℕ) {at : ℕ} {nest : Nest} {bytes : List ℕ} {o : Outcome} → bytes ≡ drop at whole → at ≤ length whole → Lexes at nest bytes o → (ts : List Token) → o ≡ Good ts → Sliced whole at ts
walk whole {at} {nest} b h (done f s e) ts q = subst (Sliced whole at) (sym (no_more at nest f ts (e ∙ ap (λ z. Done z) q))) tt
walk whole {at} {nest} {bytes} {o} b h (go f n add m rest s e k p) ts q = by rest p (λ us z. walk whole (ap (drop n) b ∙ further n at whole) on.within k us z)
  where
    on : On whole at n add
    on = goes whole at nest f n add m h (subst (λ z. Stands z f) b s) e

    by : (rest : Outcome) → o ≡ prepend add rest → ((us : List Token) → rest ≡ Good us → Sliced whole (at + n) us) → Sliced whole at ts
    by (Good us) p ih =
        let same : Good (add ++ us) ≡ Good ts = sym p ∙ q in
        let lists : add ++ us ≡ ts = cc in
        subst (Sliced whole at) lists (on.sliced us (ih us refl))
    by (Bad r) p ih = absurd (let bad : Bad r ≡ Good ts = sym p ∙ q in cc)

-- the spans of a text's tokens are in order, and each token is what the bytes of its span are
pub sliced : (bytes : List ℕ) (ts : List Token) → TokensOf bytes ts → Sliced bytes 0 ts
sliced bytes ts h = walk bytes refl (omega arith) h ts refl
