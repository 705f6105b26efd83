-- Matches that were made, taken and added.
-- Main results: hold-at, hold-more, known-is.
use Rattle.std.proofs.Common.{◌≡◌, ℕ, ◌<◌, List, [], ◌∷◌, ◌++◌, length, get_or, Ok, refl, sym, ◌∙◌, subst, arith}
use Rattle.std.proofs.lemmas.List.Elements.{All-push}
use Rattle.sig_definitions.specs.Signatures.Sig.{Sig, Abs}
use Rattle.sig_laws.proofs.Encoded.EncodingLaws.{enc-injective, enc_abs-injective}
use Rattle.sig_match.specs.declared.made.Key.{Key}
use Rattle.sig_match.specs.declared.made.Made.{Made}
use Rattle.sig_match.specs.declared.refusal.Matched.{Matched}
use Rattle.sig_match.specs.Inner.Made.{IsKey, HoldsFor, AllHold}
use Rattle.sig_match.specs.Inner.Outcomes.{EachMatch}

-- in an empty list of matches that were made, all hold
pub hold-none : (made : List Made) → made ≡ [] → AllHold made
hold-none made e = subst AllHold (sym e) (λ k d lt. absurd (omega (arith, lt)))

-- the match at a key holds for all sides that have this key
pub hold-at : (made : List Made) (one : Made) (i : ℕ) (key : Key) → AllHold made → i < length made → one ≡ get_or made i one → one.key ≡ key → (s : Sig) (x : Abs) → IsKey key.depth s x key → EachMatch key.depth s x (Ok one.matched)
hold-at made one i key h lt e k = subst (λ (q : Key). (s : Sig) (x : Abs) → IsKey q.depth s x q → EachMatch q.depth s x (Ok one.matched)) k (subst HoldsFor (sym e) (h i one lt))

-- sides that have the key of others are the others
pub holds-for : (key : Key) (m : Matched) (one : Made) → one ≡ record { key = key; matched = m } → (s : Sig) × (x : Abs) × IsKey key.depth s x key × EachMatch key.depth s x (Ok m) → HoldsFor one
holds-for key m one e w = subst HoldsFor (sym e) (λ s x k.
    let es = enc-injective w.0 s (sym w.2.1 ∙ k.1) in
    let ex = enc_abs-injective w.1 x (sym w.2.2 ∙ k.2) in
    subst (λ a. EachMatch key.depth a x (Ok m)) es (subst (λ b. EachMatch key.depth w.0 b (Ok m)) ex w.3))

-- with one more match that holds, all hold
pub hold-more : (made : List Made) (one : Made) → AllHold made → HoldsFor one → AllHold (made ++ (one ∷ []))
hold-more made one h e = All-push HoldsFor made one h e

-- a match that holds for the sides of a key holds for other sides of the same key
pub known-is : (key : Key) (m : Matched) (depth : ℕ) (s : Sig) (x : Abs) → IsKey depth s x key → ((a : Sig) (b : Abs) → IsKey key.depth a b key → EachMatch key.depth a b (Ok m)) → EachMatch depth s x (Ok m)
known-is key m depth s x k h = subst (λ n. EachMatch n s x (Ok m)) k.0 (h s x (refl, k.1, k.2))

-- a match of sides is one of sides that have their key
pub key-holds : (key : Key) (m : Matched) (depth : ℕ) (s : Sig) (x : Abs) → IsKey depth s x key → EachMatch depth s x (Ok m) → (a : Sig) × (b : Abs) × IsKey key.depth a b key × EachMatch key.depth a b (Ok m)
key-holds key m depth s x k h = (s, x, (refl, k.1, k.2), subst (λ n. EachMatch n s x (Ok m)) (sym k.0) h)
