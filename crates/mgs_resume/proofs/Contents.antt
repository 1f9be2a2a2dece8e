-- What a start adds, one buffer after another.
use Rattle.std.proofs.Common.{◌≡◌, ℕ, zero, suc, length, Bool, true, false, List, [], ◌∷◌, ◌++◌, map, Option, Some, None, if◌then◌else◌, refl, sym, ap, subst, ◌∙◌}
use Rattle.std.proofs.lemmas.List.{map-append}
use Rattle.std.proofs.lemmas.List.Elements.{All-push}
use Rattle.std.specs.Prelude.{find, get_or, is_some, slice_get, take}
use Rattle.mgs_model.proofs.Blind.{is_name}
use Rattle.mgs_model.specs.Access.{Directory, is_among}
use Rattle.mgs_laws.specs.Apart.{Rules, rules_of}
use Rattle.mgs_buffers.specs.Judging.{rules_kept}
use Rattle.mgs_buffers.specs.MarkedBuffer.{HasBuffer, MarkedBuffer}
use Rattle.mgs_journal.specs.Kept.{is_of}
use Rattle.mgs_journal.specs.Texts.{KeptText}
use Rattle.mgs_resume.specs.Contents.{AddsConfigured, Contents, StartsWith, buffer_configured, buffer_kept, buffer_with, buffers_kept, contents_at_start}
use Rattle.mgs_resume.specs.Joined.{has_name}
use Rattle.mgs_resume.specs.Refusing.{AreUsers}
use Rattle.mgs_resume.proofs.Walks.{has_kept, longer, taken_all}

-- ONE BUFFER MORE

rules_behind : (ks : List MarkedBuffer) (k : MarkedBuffer) → rules_kept (ks ++ k ∷ []) ≡ rules_kept ks ++ rules_of k.buffer ∷ []
rules_behind [] k = refl
rules_behind (l ∷ ks) k = ap (λ rs. rules_of l.buffer ∷ rs) (rules_behind ks k)

pub rules_added : (ks ls : List MarkedBuffer) (r : Rules) (contents : Contents) → ls ≡ ks ++ buffer_with r contents ∷ [] → rules_kept ls ≡ rules_kept ks ++ r ∷ []
rules_added ks ls r contents more = ap rules_kept more ∙ rules_behind ks (buffer_with r contents)

-- THOSE THAT ARE KEPT

module _ (taken : List ℕ → Bool) (config : List MarkedBuffer) where
  next_kept : (rs : List Rules) (ts : List (Option KeptText)) (n : ℕ) (r : Rules) → Some r ≡ slice_get rs n
      → buffers_kept taken config (take (suc n) rs) ts ≡ buffers_kept taken config (take n rs) ts ++ buffer_kept taken config r (get_or ts n None) ∷ []
  next_kept [] ts n r at = absurd cc
  next_kept (x ∷ rs) [] zero r at = let same : x ≡ r = cc in ap (λ y. buffer_kept taken config y None ∷ []) same
  next_kept (x ∷ rs) (t ∷ ts) zero r at = let same : x ≡ r = cc in ap (λ y. buffer_kept taken config y t ∷ []) same
  next_kept (x ∷ rs) [] (suc n) r at = ap (λ ks. buffer_kept taken config x None ∷ ks) (next_kept rs [] n r at)
  next_kept (x ∷ rs) (t ∷ ts) (suc n) r at = ap (λ ks. buffer_kept taken config x t ∷ ks) (next_kept rs ts n r at)

  pub rules_more : (ks ls : List MarkedBuffer) (r : Rules) (text : Option KeptText) → ls ≡ ks ++ buffer_kept taken config r text ∷ [] → rules_kept ls ≡ rules_kept ks ++ r ∷ []
  rules_more ks ls r text = rules_added ks ls r (contents_at_start taken config r.name text)

  pub texts_more : (ks ls : List MarkedBuffer) (rs : List Rules) (ts : List (Option KeptText)) (n : ℕ) (r : Rules) → n ≡ length ks
      → ks ≡ buffers_kept taken config (take (length ks) rs) ts → Some r ≡ slice_get rs n
      → ls ≡ ks ++ buffer_kept taken config r (get_or ts (length ks) None) ∷ [] → ls ≡ buffers_kept taken config (take (length ls) rs) ts
  texts_more ks ls rs ts n r place so at more =
      more
      ∙ ap (λ xs. xs ++ buffer_kept taken config r (get_or ts (length ks) None) ∷ []) so
      ∙ sym (next_kept rs ts (length ks) r (at ∙ ap (slice_get rs) place))
      ∙ ap (λ m. buffers_kept taken config (take m rs) ts) (sym (longer ks ls r (rules_more ks ls r (get_or ts (length ks) None) more)))

  pub texts_all : (ks : List MarkedBuffer) (rs : List Rules) (ts : List (Option KeptText)) (n : ℕ) → n ≡ length ks
      → ks ≡ buffers_kept taken config (take (length ks) rs) ts → None ≡ slice_get rs n → ks ≡ buffers_kept taken config rs ts
  texts_all ks rs ts n place so none = so ∙ ap (λ xs. buffers_kept taken config xs ts) (taken_all rs (length ks) (none ∙ ap (slice_get rs) place))

-- THOSE OF THE CONFIGURATION

named : (rs : List Rules) (i : ℕ) (r : Rules) → Some r ≡ slice_get rs i → has_name r.name rs ≡ true
named [] i r at = absurd cc
named (x ∷ rs) zero r at =
    let same : x ≡ r = cc in
    first (is_of r.name x) (ap (λ (y : Rules). is_of r.name y) same ∙ is_name r.name)
  where
    first : (b : Bool) → b ≡ true → is_some (if b then Some x else find (is_of r.name) rs) ≡ true
    first true e = refl
    first false e = absurd cc
named (x ∷ rs) (suc i) r at = later (is_of r.name x) (named rs i r at)
  where
    later : (b : Bool) → is_some (find (is_of r.name) rs) ≡ true → is_some (if b then Some x else find (is_of r.name) rs) ≡ true
    later true e = refl
    later false e = e

-- whatever access is decided by is that of a buffer
pub there : (ks : List MarkedBuffer) (i : ℕ) (r : Rules) → Some r ≡ slice_get (rules_kept ks) i → HasBuffer r.name ks
there ks i r at = has_kept r.name ks ∙ named (rules_kept ks) i r at

none_behind : {A : Type 0} (xs : List A) → xs ≡ xs ++ []
none_behind [] = refl
none_behind (x ∷ xs) = ap (λ ys. x ∷ ys) (none_behind xs)

all_behind : {A : Type 0} (xs ys zs : List A) → (xs ++ ys) ++ zs ≡ xs ++ (ys ++ zs)
all_behind [] ys zs = refl
all_behind (x ∷ xs) ys zs = ap (λ rest. x ∷ rest) (all_behind xs ys zs)

pub adds_none : (config ks : List MarkedBuffer) → AddsConfigured config ks ks
adds_none config ks = record { others = []; shape = none_behind ks }

pub adds_one : (config ks ls : List MarkedBuffer) (r : Rules) → ls ≡ ks ++ buffer_configured config r ∷ [] → AddsConfigured config ks ls
adds_one config ks ls r more = record { others = r ∷ []; shape = more }

pub adds_both : (config ks ls ms : List MarkedBuffer) → AddsConfigured config ks ls → AddsConfigured config ls ms → AddsConfigured config ks ms
adds_both config ks ls ms first then_so =
    record {
      others = first.others ++ then_so.others;
      shape =
          then_so.shape
          ∙ ap (λ xs. xs ++ map (buffer_configured config) then_so.others) first.shape
          ∙ all_behind ks (map (buffer_configured config) first.others) (map (buffer_configured config) then_so.others)
          ∙ ap (λ xs. ks ++ xs) (sym (map-append (buffer_configured config) first.others then_so.others));
    }

pub starts_with : (taken : List ℕ → Bool) (config : List MarkedBuffer) (rs : List Rules) (ts : List (Option KeptText)) (ks ls : List MarkedBuffer)
    → ks ≡ buffers_kept taken config rs ts → AddsConfigured config ks ls → StartsWith taken config rs ts ls
starts_with taken config rs ts ks ls first others = subst (λ xs. AddsConfigured config xs ls) first others

-- the owners of those that were added are users
pub users_more : (d : Directory) (taken : List ℕ → Bool) (config ks ls : List MarkedBuffer) (r : Rules) (text : Option KeptText) → ls ≡ ks ++ buffer_kept taken config r text ∷ []
    → is_among r.owners.owner d.users ≡ true → AreUsers d (rules_kept ks) → AreUsers d (rules_kept ls)
users_more d taken config ks ls r text e is all =
    subst (λ (rs : List Rules). AreUsers d rs) (sym (rules_more taken config ks ls r text e))
    (All-push (λ (x : Rules). is_among x.owners.owner d.users ≡ true) (rules_kept ks) r all is)
