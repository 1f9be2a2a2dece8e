-- Members of a group who are users.
use Rattle.std.proofs.Common.{◌≡◌, ℕ, ◌+◌, ◌<◌, refl, sym, ap, ◌∙◌, Bool, true, false, cond, List, [], ◌∷◌, ◌++◌, length, map, get_or, take, Bor}
use Rattle.std.specs.Prelude.{find, Some, None, ◌||◌}
use Rattle.std.specs.Option.{option_map}
use Rattle.std.specs.List.{list_all}
use Rattle.std.proofs.lemmas.List.{take_more, map-append}
use Rattle.std.proofs.lemmas.List.Folds.{list_all-map}
use Rattle.std.proofs.lemmas.List.Sums.{AllPass-from_list_all}
use Rattle.std.proofs.lemmas.Slice.Eq.{bytes_eq-Decides}
use Rattle.mgs_model.specs.Names.{same_name}
use Rattle.mgs_model.specs.Access.{UserGroup, is_among}
use Rattle.mgs_model.proofs.Firsts.{find-map}
use Rattle.mgs_policy.specs.Groups.{are_users}

-- what texts say
abbrev pub texts : List (Bor (List ℕ)) → List (List ℕ)
texts members = map (λ member. member.now) members

pub are_users-texts : (users : List (List ℕ)) (members : List (Bor (List ℕ))) → are_users users (texts members) ≡ list_all (λ member. is_among member.now users) members
are_users-texts users members = list_all-map (λ member. is_among member users) (λ member. member.now) members

-- who is among the users is found by his name
pub found_user : (name : List ℕ) (users : List (List ℕ)) → is_among name users ≡ true → find (same_name name) users ≡ Some name
found_user name [] h = absurd (cc)
found_user name (user ∷ users) h = by (same_name name user) refl h (found_user name users)
  where
    by : (b : Bool) → same_name name user ≡ b → b || is_among name users ≡ true → (is_among name users ≡ true → find (same_name name) users ≡ Some name) → cond b (Some user) (find (same_name name) users) ≡ Some name
    by true is e later = ap Some (sym ((bytes_eq-Decides name user).0 is))
    by false is e later = later e

pub found_same : (name x : List ℕ) (users : List (List ℕ)) → is_among name users ≡ true → find (same_name name) users ≡ Some x → x ≡ name
found_same name x users h e =
    let same : Some x ≡ Some name = sym e ∙ found_user name users h in
    cc

pub never_absent : (name : List ℕ) (users : List (List ℕ)) → is_among name users ≡ true → find (same_name name) users ≡ None → ⊥
never_absent name users h e =
    let same : Some name ≡ None = sym (found_user name users h) ∙ e in
    cc

pub known_member : (users : List (List ℕ)) (members : List (Bor (List ℕ))) (i : ℕ) (d : Bor (List ℕ)) → are_users users (texts members) ≡ true → i < length members → is_among (get_or members i d).now users ≡ true
known_member users members i d h within =
    AllPass-from_list_all (λ (m : Bor (List ℕ)). is_among m.now users) members (sym (are_users-texts users members) ∙ h) i d within

pub texts_more : (members : List (Bor (List ℕ))) (i : ℕ) (d : Bor (List ℕ)) → i < length members → texts (take (i + 1) members) ≡ texts (take i members) ++ (get_or members i d).now ∷ []
texts_more members i d within =
    ap texts (take_more members i d within) ∙ map-append (λ (m : Bor (List ℕ)). m.now) (take i members) (get_or members i d ∷ [])

pub known_more : (members : List (Bor (List ℕ))) (i : ℕ) (d : Bor (List ℕ)) (old new : List (List ℕ)) → i < length members → old ≡ texts (take i members) → new ≡ old ++ (get_or members i d).now ∷ [] → new ≡ texts (take (i + 1) members)
known_more members i d old new within e f = f ∙ ap (λ (xs : List (List ℕ)). xs ++ (get_or members i d).now ∷ []) e ∙ sym (texts_more members i d within)

-- the name of the group that is found is the name that is found
pub group_name : (typed : List ℕ) (groups : List UserGroup) → find (same_name typed) (map (λ g. g.name) groups) ≡ option_map (λ g. g.name) (find (λ g. same_name typed g.name) groups)
group_name typed groups = find-map (λ (g : UserGroup). g.name) (λ g. same_name typed g.name) (same_name typed) (λ g. refl) groups
