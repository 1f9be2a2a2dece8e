-- Worked cases of the secrecy laws: their premises can be met.
use Rattle.std.proofs.Common.{◌≡◌, ℕ, Bool, true, false, List, [], ◌∷◌, None, refl, subst, codes}
use Rattle.mgs_model.specs.Names.{same_name}
use Rattle.mgs_model.specs.Access.{Directory, decider, any_right}
use Rattle.mgs_model.specs.World.{World, Buffer, may}
use Rattle.mgs_model.specs.Acts.{outcome}
use Rattle.mgs_model.specs.Keys.{key_read}
use Rattle.mgs_model.specs.Turns.{next}
use Rattle.mgs_model.specs.Events.{Event, Open, Byte, run, run_saves, turns, turns_effects, most_turns, path}
use Rattle.mgs_laws.specs.Secrecy.{Alike, HiddenThrough, turn_worlds, run_worlds, still_through, AllBy, Same, has_name}
use Rattle.mgs_laws.specs.Purging.{Closed, OthersInside, Untouched, purge}
use Rattle.mgs_model.specs.declared.right.Right.TheVariants.{ReadData}
use Rattle.mgs_model.specs.declared.entry.Entry.{Entry}
use Rattle.mgs_model.specs.declared.entry.EntryType.TheVariants.{Allow}
use Rattle.mgs_model.specs.declared.entry.Who.TheVariants.{Owner, User}
use Rattle.mgs_model.proofs.Blind.{same_names}
use Rattle.mgs_laws.proofs.Stepping.{hidden_text}
use Rattle.mgs_laws.proofs.Purge.{purged}

abbrev directory : Directory
directory = record { users = codes "ann" ∷ codes "bob" ∷ []; groups = [] }

abbrev bob : List ℕ → Bool
bob u = same_name (codes "bob") u

abbrev notes : List ℕ → Bool
notes name = same_name (codes "notes") name

abbrev buffer_with : List ℕ → List Entry → Buffer
buffer_with text entries = record { name = codes "notes"; owners = record { owner = codes "ann"; group = None }; entries = entries; text = text; items = []; serial = 0; modified = false; file = false }

abbrev world_with : List ℕ → List Entry → World
world_with text entries = record { directory = directory; buffers = buffer_with text entries ∷ []; sessions = []; next_id = 1 }

-- BOB APPENDS TO A TEXT THAT HE MAY NOT READ

abbrev appends : List Entry
appends = record { entry_type = Allow; who = User (codes "bob"); mask = 132 } ∷ []

abbrev typed : List Event
typed = Open 1 (codes "bob") 6 20 ∷ Byte 1 120 true None ∷ []

may_not_read : (text : List ℕ) (u : List ℕ) → bob u ≡ true → may directory u ReadData (buffer_with text appends) ≡ false
may_not_read text u e = subst (λ x. may directory x ReadData (buffer_with text appends) ≡ false) (same_names (codes "bob") u e) refl

never_read : HiddenThrough bob notes (run_worlds (world_with (codes "abc") appends) typed)
unfolding turn_worlds turns path most_turns outcome next key_read
never_read =
    let h : (u : List ℕ) → bob u ≡ true → may directory u ReadData (buffer_with (codes "abc") appends) ≡ false = may_not_read (codes "abc") in
    ((λ e. h, tt), ((λ e. h, tt), ((λ e. h, tt), ((λ e. h, tt), ((λ e. h, tt), tt)))))

his : AllBy bob (world_with (codes "abc") appends) typed
unfolding turns path most_turns outcome next key_read
his = (refl, (refl, tt))

other_text : Alike bob notes (world_with (codes "abc") appends) (world_with (codes "xyz") appends)
other_text = refl

-- whatever the text is
same_to_bob : Same bob (still_through notes (run_worlds (world_with (codes "abc") appends) typed)) (run (world_with (codes "abc") appends) typed) (run (world_with (codes "xyz") appends) typed) × (run_saves (world_with (codes "abc") appends) typed ≡ run_saves (world_with (codes "xyz") appends) typed)
same_to_bob = hidden_text bob notes (world_with (codes "abc") appends) (world_with (codes "xyz") appends) typed other_text his never_read

-- ANN WRITES WHERE BOB HAS NO RIGHT

abbrev hers : List Entry
hers = record { entry_type = Allow; who = Owner; mask = 983175 } ∷ []

abbrev ann_there : World
ann_there = run (world_with [] hers) (Open 1 (codes "ann") 6 20 ∷ [])

abbrev writes : List Event
writes = Open 2 (codes "bob") 6 20 ∷ Byte 1 120 true None ∷ Byte 2 6 true None ∷ []

no_right : Closed bob notes ann_there
no_right = record {
  there = λ name e. subst (λ n. has_name n ann_there.buffers ≡ true) (same_names (codes "notes") name e) refl;
  no_rights = (λ e u g. subst (λ x. any_right (decider directory (record { owner = codes "ann"; group = None }) x hers) ≡ false) (same_names (codes "bob") u g) refl, tt);
}

she_stays_inside : OthersInside bob notes ann_there writes
unfolding turns_effects turns path most_turns outcome next key_read
she_stays_inside = (λ e. let z : false ≡ true = e in cc, (λ e. (refl, tt), (λ e. let z : false ≡ true = e in cc, tt)))

-- bob is left with his own events
purged_of_ann : purge bob ann_there writes ≡ Open 2 (codes "bob") 6 20 ∷ Byte 2 6 true None ∷ []
unfolding turns path most_turns outcome next key_read
purged_of_ann = refl

untouched : Untouched bob notes (run ann_there writes) (run ann_there (purge bob ann_there writes))
untouched = purged bob notes ann_there writes refl no_right she_stays_inside
