-- The label of a line of keys, read without its keys.
use Rattle.std.proofs.Common.{◌≡◌, ℕ, List, Option, Some, None, refl, subst}
use Rattle.std.specs.Prelude.{IfSome}
use Rattle.std.specs.Option.{option_map}
use Rattle.mgs_keys.specs.Words.{◌>>=◌, word_of, words_after, words_of}
use Rattle.mgs_keys.specs.Tokens.{keys_of}
use Rattle.mgs_script.specs.Words.{name_of, any_word_of, text_of, size_said}
use Rattle.mgs_script.specs.Lines.{Said, Group, Buffer, OwnGroup, Entry, Text, Open, Keys, Show, Close, group_said, buffer_said, owngroup_said, entry_said, text_said, open_said, keys_said, kind_named, said_as, said_by_kind, label_typed, label_after}
use Rattle.mgs_script.specs.declared.kind.LineKind.{LineKind}
use Rattle.mgs_script.specs.declared.kind.LineKind.TheVariants as kinds

abbrev Labels : Option (List ℕ) → Option Said → Type 0
Labels label said = IfSome said (λ s. label ≡ label_typed s)

pub kind_labels : (k : LineKind) (t : List ℕ) → Labels (label_after k t) (said_as k t)
unfolding group_said buffer_said owngroup_said entry_said text_said open_said keys_said
kind_labels kinds.User t = refl
kind_labels kinds.Group t = by (words_after t)
  where
    by : (rest : Option (List ℕ)) → Labels None (option_map (λ r. Group (word_of t) (words_of r)) rest)
    by None = tt
    by (Some r) = refl
kind_labels kinds.Buffer t = by (words_after t)
  where
    by : (rest : Option (List ℕ)) → Labels None (option_map (λ r. Buffer (word_of t) r) rest)
    by None = tt
    by (Some r) = refl
kind_labels kinds.OwnGroup t = by (name_of (word_of t)) (words_after t)
  where
    by : (b rest : Option (List ℕ)) → Labels None (b >>= λ x. rest >>= λ g. Some (OwnGroup x g))
    by None rest = tt
    by (Some x) None = tt
    by (Some x) (Some g) = refl
kind_labels kinds.Entry t = by (name_of (word_of t)) (words_after t)
  where
    by : (b rest : Option (List ℕ)) → Labels None (b >>= λ x. rest >>= λ e. Some (Entry x e))
    by None rest = tt
    by (Some x) None = tt
    by (Some x) (Some e) = refl
kind_labels kinds.Text t = by (name_of (word_of t)) (words_after t)
  where
    last : (x : List ℕ) (text : Option (List ℕ)) → Labels None (text >>= λ e. Some (Text x e))
    last x None = tt
    last x (Some e) = refl

    by : (b rest : Option (List ℕ)) → Labels None (b >>= λ x. rest >>= λ r. text_of r >>= λ e. Some (Text x e))
    by None rest = tt
    by (Some x) None = tt
    by (Some x) (Some r) = last x (text_of r)
kind_labels kinds.Open t = by (name_of (word_of t)) (words_after t)
  where
    sized : (x u : List ℕ) (size : Option (ℕ × ℕ)) → Labels None (size >>= λ z. Some (Open x u z.0 z.1))
    sized x u None = tt
    sized x u (Some z) = refl

    sizes : (x u : List ℕ) (rest : Option (List ℕ)) → Labels None (rest >>= λ r. size_said r >>= λ z. Some (Open x u z.0 z.1))
    sizes x u None = tt
    sizes x u (Some r) = sized x u (size_said r)

    user : (x r : List ℕ) (u : Option (List ℕ)) → Labels None (u >>= λ v. words_after r >>= λ q. size_said q >>= λ z. Some (Open x v z.0 z.1))
    user x r None = tt
    user x r (Some v) = sizes x v (words_after r)

    by : (b rest : Option (List ℕ)) → Labels None (b >>= λ x. rest >>= λ r. any_word_of (word_of r) >>= λ v. words_after r >>= λ q. size_said q >>= λ z. Some (Open x v z.0 z.1))
    by None rest = tt
    by (Some x) None = tt
    by (Some x) (Some r) = user x r (any_word_of (word_of r))
kind_labels kinds.Keys t = by (name_of (word_of t)) (words_after t)
  where
    last : (x : List ℕ) (keys : Option (List ℕ)) → Labels (Some x) (keys >>= λ k. Some (Keys x k))
    last x None = tt
    last x (Some k) = refl

    by : (b rest : Option (List ℕ)) → Labels b (b >>= λ x. rest >>= λ r. keys_of r >>= λ k. Some (Keys x k))
    by None rest = tt
    by (Some x) None = tt
    by (Some x) (Some r) = last x (keys_of r)
kind_labels kinds.Show t = by (name_of t)
  where
    by : (b : Option (List ℕ)) → Labels None (option_map Show b)
    by None = tt
    by (Some x) = refl
kind_labels kinds.Close t = by (name_of t)
  where
    by : (b : Option (List ℕ)) → Labels None (option_map Close b)
    by None = tt
    by (Some x) = refl

pub label_said : (t rest : List ℕ) (k : LineKind) → Some k ≡ kind_named (word_of t) → Some rest ≡ words_after t → IfSome (said_by_kind t) (λ said. label_after k rest ≡ label_typed said)
unfolding said_by_kind
label_said t rest k kind after =
    subst (λ (o : Option LineKind). Labels (label_after k rest) (o >>= λ x. words_after t >>= λ r. said_as x r)) kind
    (subst (λ (o : Option (List ℕ)). Labels (label_after k rest) (o >>= λ r. said_as k r)) after (kind_labels k rest))
