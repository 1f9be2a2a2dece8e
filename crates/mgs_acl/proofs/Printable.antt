-- What is printed of an entry is visible ASCII and spaces.
use Rattle.std.proofs.Common.{refl, ◌≡◌, ℕ, ◌≤◌, List, [], ◌∷◌, ◌++◌, map, arith, All, subst, sym}
use Rattle.std.specs.Prelude.{IsTrue, codes}
use Rattle.std.specs.List.{list_all}
use Rattle.std.proofs.lemmas.Bool.{and_parts, leb-true}
use Rattle.std.proofs.lemmas.List.Elements.{All-nil, All-cons, All-append}
use Rattle.mgs_model.specs.Names.{IsName, is_visible}
use Rattle.mgs_model.specs.Picture.{IsPrintable}
use Rattle.mgs_model.specs.Rights.{letter_of, rights_in}
use Rattle.mgs_model.specs.Draw.{type_text, who_text, entry_text}
use Rattle.mgs_model.specs.declared.right.Right.{Right}
use Rattle.mgs_model.specs.declared.right.Right.TheVariants.{ReadData, WriteData, AppendData, ReadAttributes, Delete, ReadAcl, WriteAcl, WriteOwner}
use Rattle.mgs_model.specs.declared.entry.Entry.{Entry}
use Rattle.mgs_model.specs.declared.entry.EntryType.{EntryType}
use Rattle.mgs_model.specs.declared.entry.EntryType.TheVariants.{Allow, Deny}
use Rattle.mgs_model.specs.declared.entry.Who.{Who}
use Rattle.mgs_model.specs.declared.entry.Who.TheVariants.{Owner, OwningGroup, Everyone, User, Group}
use Rattle.mgs_acl.specs.Written.{HasName}

visible_printable : (xs : List ℕ) → IsTrue (list_all is_visible xs) → All IsPrintable xs
visible_printable [] h = All-nil IsPrintable
visible_printable (x ∷ xs) h =
    let both = and_parts (is_visible x) (list_all is_visible xs) h in
    let bounds = and_parts _ _ both.0 in
    let low : 33 ≤ x = leb-true 33 x bounds.0 in
    All-cons IsPrintable x xs (omega arith, leb-true x 126 bounds.1) (visible_printable xs both.1)

name_printable : (name : List ℕ) → IsName name → All IsPrintable name
name_printable name h = visible_printable name (and_parts _ _ (and_parts _ _ h).1).1

type_printable : (t : EntryType) → All IsPrintable (type_text t)
type_printable Allow = visible_printable (type_text Allow) refl
type_printable Deny = visible_printable (type_text Deny) refl

who_printable : (who : Who) → HasName who → All IsPrintable (who_text who)
who_printable Owner h = visible_printable (who_text Owner) refl
who_printable OwningGroup h = visible_printable (who_text OwningGroup) refl
who_printable Everyone h = visible_printable (who_text Everyone) refl
who_printable (User name) h = name_printable name h
who_printable (Group name) h = All-append IsPrintable (codes "group:") name (visible_printable (codes "group:") refl) (name_printable name h)

letter_visible : (right : Right) → IsTrue (is_visible (letter_of right))
letter_visible ReadData = refl
letter_visible WriteData = refl
letter_visible AppendData = refl
letter_visible ReadAttributes = refl
letter_visible Delete = refl
letter_visible ReadAcl = refl
letter_visible WriteAcl = refl
letter_visible WriteOwner = refl

letters_printable : (rights : List Right) → All IsPrintable (map letter_of rights)
letters_printable [] = All-nil IsPrintable
letters_printable (right ∷ rights) =
    let bounds = and_parts _ _ (letter_visible right) in
    let low : 33 ≤ letter_of right = leb-true 33 (letter_of right) bounds.0 in
    All-cons IsPrintable (letter_of right) (map letter_of rights) (omega arith, leb-true (letter_of right) 126 bounds.1) (letters_printable rights)

space : All IsPrintable (codes " ")
space = All-cons IsPrintable 32 [] (omega arith, omega arith) (All-nil IsPrintable)

entry_is : (e : Entry) → HasName e.who → All IsPrintable (entry_text e)
entry_is e h =
    let letters : List ℕ = map letter_of (rights_in e.mask) in
    let front : List ℕ = type_text e.entry_type ++ codes " " in
    let typed : All IsPrintable front = All-append IsPrintable (type_text e.entry_type) (codes " ") (type_printable e.entry_type) space in
    let named : All IsPrintable (front ++ who_text e.who) = All-append IsPrintable front (who_text e.who) typed (who_printable e.who h) in
    All-append IsPrintable (front ++ who_text e.who ++ codes " ") letters (All-append IsPrintable (front ++ who_text e.who) (codes " ") named space) (letters_printable (rights_in e.mask))

pub entry_printable : (e : Entry) (text : List ℕ) → text ≡ entry_text e → HasName e.who → All IsPrintable text
entry_printable e text is h = subst (All IsPrintable) (sym is) (entry_is e h)
