-- What a change of a buffer's owners or of its access list comes to.
use Rattle.std.proofs.Common.{◌≡◌, ℕ, Bool, true, false, true≢false, cond, ◌||◌, ◌==◌, List, [], ◌∷◌, length, map, Option, Some, None, refl, sym, ap, subst, ◌∙◌, arith}
use Rattle.std.specs.Prelude.{find, is_some, IfSome, Result, Ok, Err}
use Rattle.std.proofs.lemmas.Bool.{eqb-true}
use Rattle.std.proofs.lemmas.List.Folds.{list_any_at}
use Rattle.mgs_model.specs.Access.{Decider, Directory, decider, UserGroup, allows, any_right, decision_by, group_answered, is_among, is_group_answer, is_group_named}
use Rattle.mgs_model.specs.Names.{IsName, same_name}
use Rattle.mgs_model.specs.Rights.{all_rights, rights_in}
use Rattle.mgs_model.specs.World.{Buffer, State}
use Rattle.mgs_model.specs.View.{BufferSeen, View, buffer_seen, find_seen, told_if, view}
use Rattle.mgs_model.specs.Outcome.{Effect, SetOwners, Run}
use Rattle.mgs_model.specs.declared.owners.NewOwner.TheVariants.{ToUser, ToGroup}
use Rattle.mgs_model.specs.Plans.{entries_changed}
use Rattle.mgs_model.specs.Acts.{about, effects, entries_told, fails, judged, outcome, permitted, list_set, rules, subject}
use Rattle.mgs_model.specs.declared.echo_text.Message.{Message}
use Rattle.mgs_model.specs.declared.echo_text.Message.TheVariants.{Says}
use Rattle.mgs_model.specs.declared.echo_text.Notice.TheVariants.{NoBuffer, NoSuchUser, NoSuchGroup}
use Rattle.mgs_model.specs.declared.right.Right.{Right}
use Rattle.mgs_model.specs.declared.right.Right.TheVariants.{ReadData, WriteAcl}
use Rattle.mgs_model.specs.declared.session.EntryChange.{EntryChange}
use Rattle.mgs_model.proofs.Deciding.{granted_each}
use Rattle.mgs_buffers.specs.MarkedBuffer.{HasBuffer, MarkedBuffer, has_buffer, marked_at}
use Rattle.mgs_session.specs.Sessions.{subject_of}
use Rattle.mgs_session.specs.declared.Session.{Session}
use Rattle.mgs_plan.specs.Subjects.{subject_kept}
use Rattle.mgs_plan.specs.Ruling.{command_of, group_plan, owner_plan, ruling_in, ruling_mask, ruling_outcome, ruling_plan}
use Rattle.mgs_plan.specs.Deciding.{IsJudged, IsOutcome, IsRuled, view_at}
use Rattle.mgs_plan.specs.Inserting.{rights_decision}
use Rattle.mgs_plan.specs.declared.outcome.Outcome.{Outcome}
use Rattle.mgs_plan.specs.declared.outcome.Outcome.TheVariants.{Fails}
use Rattle.mgs_plan.specs.declared.rule_change.Ruling.{Ruling}
use Rattle.mgs_plan.specs.declared.rule_change.Ruling.TheVariants.{Owner, Group, Entries}
use Rattle.mgs_world.specs.Worlds.{buffers_of, state_of, session_of, world_of}
use Rattle.mgs_world.proofs.Found.{found_seen, name_kept}
use Rattle.mgs_world.proofs.Marks.{same_is}
use Rattle.mgs_plan.proofs.Named.{about_none, about_one}
use Rattle.mgs_plan.proofs.Outcomes.{permitted_same}
use Rattle.mgs_plan.proofs.Subjects.{kept_subject, subject_seen, subject_told}
use Rattle.mgs_plan.proofs.Stored.{is_save, unstored}

-- A USER'S NAME

abbrev owner_found : List ℕ → Option (List ℕ) → Result Effect Message
owner_found name None = Err (Says NoSuchUser)
owner_found name (Some owner) = Ok (SetOwners name (ToUser owner))

-- whoever is found by the name that was typed has that name
user_found : (name typed : List ℕ) (users : List (List ℕ)) → owner_found name (find (same_name typed) users) ≡ cond (is_among typed users) (Ok (SetOwners name (ToUser typed))) (Err (Says NoSuchUser))
user_found name typed [] = refl
user_found name typed (user ∷ users) = by (same_name typed user) refl (user_found name typed users)
  where
    by : (b : Bool) → same_name typed user ≡ b → owner_found name (find (same_name typed) users) ≡ cond (is_among typed users) (Ok (SetOwners name (ToUser typed))) (Err (Says NoSuchUser))
        → owner_found name (cond b (Some user) (find (same_name typed) users)) ≡ cond (b || is_among typed users) (Ok (SetOwners name (ToUser typed))) (Err (Says NoSuchUser))
    by true is later = ap (λ (m : List ℕ). Ok (SetOwners name (ToUser m))) (sym (same_is typed user is))
    by false is later = later

-- in the words of what is done
pub owner_some : (directory : Directory) (state : State) (name owner typed : List ℕ) → Some owner ≡ find (same_name typed) directory.users → effects state (Ok (SetOwners name (ToUser owner))) ≡ effects state (owner_plan directory name typed)
owner_some directory state name owner typed found =
    ap (λ o. effects state (owner_found name o)) found ∙ ap (effects state) (user_found name typed directory.users)

pub owner_none : (directory : Directory) (state : State) (name typed : List ℕ) → None ≡ find (same_name typed) directory.users → fails state (Says NoSuchUser) ≡ effects state (owner_plan directory name typed)
owner_none directory state name typed found =
    ap (λ o. effects state (owner_found name o)) found ∙ ap (effects state) (user_found name typed directory.users)

-- A GROUP'S NAME

abbrev group_found : List ℕ → Option (List ℕ) → Result Effect Message
group_found name None = Err (Says NoSuchGroup)
group_found name (Some group) = Ok (SetOwners name (ToGroup (Some group)))

-- the group that is found by the name that was typed has that name
named_found : (name typed : List ℕ) (groups : List UserGroup) → group_found name (find (same_name typed) (map (λ g. g.name) groups)) ≡ cond (is_group_named typed groups) (Ok (SetOwners name (ToGroup (Some typed)))) (Err (Says NoSuchGroup))
named_found name typed [] = refl
named_found name typed (g ∷ groups) = by (same_name typed g.name) refl (named_found name typed groups)
  where
    by : (b : Bool) → same_name typed g.name ≡ b → group_found name (find (same_name typed) (map (λ g. g.name) groups)) ≡ cond (is_group_named typed groups) (Ok (SetOwners name (ToGroup (Some typed)))) (Err (Says NoSuchGroup))
        → group_found name (cond b (Some g.name) (find (same_name typed) (map (λ g. g.name) groups))) ≡ cond (b || is_group_named typed groups) (Ok (SetOwners name (ToGroup (Some typed)))) (Err (Says NoSuchGroup))
    by true is later = ap (λ (m : List ℕ). Ok (SetOwners name (ToGroup (Some m)))) (sym (same_is typed g.name is))
    by false is later = later

-- what a typed name that is not empty plans
group_planned : (directory : Directory) (name typed : List ℕ) → (length typed == 0) ≡ false → group_found name (find (same_name typed) (map (λ g. g.name) directory.groups)) ≡ group_plan directory name typed
group_planned directory name [] some = absurd (true≢false some)
group_planned directory name (c ∷ cs) some = named_found name (c ∷ cs) directory.groups

-- in the words of what is done
pub group_some : (directory : Directory) (state : State) (name group typed : List ℕ) → (length typed == 0) ≡ false → Some group ≡ find (same_name typed) (map (λ g. g.name) directory.groups) → effects state (Ok (SetOwners name (ToGroup (Some group)))) ≡ effects state (group_plan directory name typed)
group_some directory state name group typed some found =
    ap (λ o. effects state (group_found name o)) found ∙ ap (effects state) (group_planned directory name typed some)

pub group_none : (directory : Directory) (state : State) (name typed : List ℕ) → (length typed == 0) ≡ false → None ≡ find (same_name typed) (map (λ g. g.name) directory.groups) → fails state (Says NoSuchGroup) ≡ effects state (group_plan directory name typed)
group_none directory state name typed some found =
    ap (λ o. effects state (group_found name o)) found ∙ ap (effects state) (group_planned directory name typed some)

-- where nothing is typed, no group is to own the buffer
pub group_empty : (directory : Directory) (state : State) (name typed : List ℕ) → (length typed == 0) ≡ true → effects state (Ok (SetOwners name (ToGroup None))) ≡ effects state (group_plan directory name typed)
group_empty directory state name [] none = refl
group_empty directory state name (c ∷ cs) none = absurd (omega (arith, eqb-true (length (c ∷ cs)) 0 none))

-- WHAT THE ACT COMES TO

-- where no buffer is shown
none_ruled : (v : View) (rights : ℕ) (plan : BufferSeen → Result Effect Message) → subject v ≡ None → permitted v.session.state (judged v (about (subject v) rights)) (rules v.session.state (subject v) plan) ≡ fails v.session.state (Says NoBuffer)
none_ruled v rights plan none = about_none v rights (λ o. rules v.session.state o plan) none

-- whoever may write the list is told of it
list_told : (state : State) (d : Right → Decider) (b : Buffer) (c : EntryChange) (n : Option ℕ) (typed : List ℕ) → permitted state (decision_by d (rights_in 262144)) (effects state (list_set b.name (entries_changed c (entries_told (told_if (any_right d) b)) n typed))) ≡ permitted state (decision_by d (rights_in 262144)) (effects state (list_set b.name (entries_changed c b.entries n typed)))
list_told state d b c n typed =
    permitted_same state (decision_by d (rights_in 262144)) _ _ (λ e. ap (λ (a : Bool). effects state (list_set b.name (entries_changed c (entries_told (told_if a b)) n typed))) (list_any_at (λ right. allows (d right)) all_rights 6 ReadData (omega arith) (granted_each d (WriteAcl ∷ []) e).0))

-- in the buffer that is shown, under its name
shown_by : (directory : Directory) (ks : List MarkedBuffer) (xs : List Session) (next : Option ℕ) (h : Session) (rights : ℕ) (plan : BufferSeen → Result Effect Message) (does : List ℕ → Result Effect Message) (name : List ℕ) → HasBuffer name ks
    → (let v = view (world_of directory ks xs next) (session_of ks h) in let b = (marked_at name ks).buffer in let seen = buffer_seen directory h.user b in
    subject v ≡ Some seen → permitted v.session.state (decision_by seen.deciders (rights_in rights)) (effects v.session.state (plan seen)) ≡ permitted v.session.state (decision_by seen.deciders (rights_in rights)) (effects v.session.state (does b.name))
    → permitted v.session.state (judged v (about (subject v) rights)) (rules v.session.state (subject v) plan) ≡ permitted v.session.state (decision_by seen.deciders (rights_in rights)) (effects v.session.state (does name)))
shown_by directory ks xs next h rights plan does name kept is same =
    let v = view (world_of directory ks xs next) (session_of ks h) in
    let seen = buffer_seen directory h.user (marked_at name ks).buffer in
    about_one v rights (λ o. rules v.session.state o plan) seen is (ap (λ m. find_seen m (map (buffer_seen directory h.user) (buffers_of ks))) (name_kept name ks kept) ∙ found_seen directory h.user name ks kept)
    ∙ same
    ∙ ap (λ (m : List ℕ). permitted v.session.state (decision_by seen.deciders (rights_in rights)) (effects v.session.state (does m))) (name_kept name ks kept)

shown_ruled : (directory : Directory) (ks : List MarkedBuffer) (xs : List Session) (next : Option ℕ) (h : Session) (c : Ruling) (n : Option ℕ) (typed name : List ℕ) → HasBuffer name ks
    → (let v = view (world_of directory ks xs next) (session_of ks h) in subject v ≡ Some (buffer_seen directory h.user (marked_at name ks).buffer) → outcome v (Run (command_of c) n typed) true ≡ ruling_in directory ks (state_of h.state) h.user name c n typed)
unfolding outcome
shown_ruled directory ks xs next h Owner n typed name kept is =
    shown_by directory ks xs next h 524288 (λ (k : BufferSeen). cond (is_among typed directory.users) (Ok (SetOwners k.name (ToUser typed))) (Err (Says NoSuchUser))) (λ m. ruling_plan directory m (marked_at name ks).buffer.entries Owner n typed) name kept is refl
shown_ruled directory ks xs next h Group n typed name kept is =
    shown_by directory ks xs next h 524288 (λ (k : BufferSeen). cond (is_group_answer directory.groups typed) (Ok (SetOwners k.name (ToGroup (group_answered typed)))) (Err (Says NoSuchGroup))) (λ m. ruling_plan directory m (marked_at name ks).buffer.entries Group n typed) name kept is refl
shown_ruled directory ks xs next h (Entries c) n typed name kept is =
    let b = (marked_at name ks).buffer in
    shown_by directory ks xs next h 262144 (λ (k : BufferSeen). list_set k.name (entries_changed c (entries_told k.told) n typed)) (λ m. ruling_plan directory m b.entries (Entries c) n typed) name kept is
    (list_told (state_of h.state) (decider directory b.owners h.user b.entries) b c n typed)

unshown_ruled : (v : View) (c : Ruling) (n : Option ℕ) (typed : List ℕ) → subject v ≡ None → outcome v (Run (command_of c) n typed) true ≡ fails v.session.state (Says NoBuffer)
unfolding outcome
unshown_ruled v Owner n typed none = none_ruled v 524288 (λ (k : BufferSeen). cond (is_among typed v.directory.users) (Ok (SetOwners k.name (ToUser typed))) (Err (Says NoSuchUser))) none
unshown_ruled v Group n typed none = none_ruled v 524288 (λ (k : BufferSeen). cond (is_group_answer v.directory.groups typed) (Ok (SetOwners k.name (ToGroup (group_answered typed)))) (Err (Says NoSuchGroup))) none
unshown_ruled v (Entries c) n typed none = none_ruled v 262144 (λ (k : BufferSeen). list_set k.name (entries_changed c (entries_told k.told) n typed)) none

ruling_known : (directory : Directory) (ks : List MarkedBuffer) (xs : List Session) (next : Option ℕ) (h : Session) (c : Ruling) (n : Option ℕ) (typed : List ℕ) → has_buffer [] ks ≡ false
    → outcome (view (world_of directory ks xs next) (session_of ks h)) (Run (command_of c) n typed) true ≡ ruling_outcome directory ks (state_of h.state) h.user (subject_kept ks (subject_of h)) c n typed
ruling_known directory ks xs next h c n typed unnamed = go (subject_kept ks (subject_of h)) (kept_subject ks (subject_of h)) (subject_seen directory ks xs next h unnamed)
  where
    go : (s : Option (List ℕ)) → IfSome s (λ name. HasBuffer name ks) → subject (view (world_of directory ks xs next) (session_of ks h)) ≡ subject_told directory ks h.user s → outcome (view (world_of directory ks xs next) (session_of ks h)) (Run (command_of c) n typed) true ≡ ruling_outcome directory ks (state_of h.state) h.user s c n typed
    go None there is = unshown_ruled (view (world_of directory ks xs next) (session_of ks h)) c n typed is
    go (Some name) there is = shown_ruled directory ks xs next h c n typed name there is

-- FOR A SESSION

no_save : (c : Ruling) (n : Option ℕ) (typed : List ℕ) → is_save (Run (command_of c) n typed) ≡ false
no_save Owner n typed = refl
no_save _ n typed = refl

module _ (directory : Directory) (ks : List MarkedBuffer) (xs : List Session) (next : Option ℕ) (h : Session) (c : Ruling) (n : Option ℕ) (typed : List ℕ) (unnamed : has_buffer [] ks ≡ false) where
  pub rule_unshown : None ≡ subject_kept ks (subject_of h) → IsOutcome directory ks xs next h (Run (command_of c) n typed) (Fails (Says NoBuffer))
  rule_unshown none = λ stored.
      unstored (view_at directory ks xs next h) (Run (command_of c) n typed) stored (no_save c n typed)
      ∙ ruling_known directory ks xs next h c n typed unnamed ∙ ap (λ s. ruling_outcome directory ks (state_of h.state) h.user s c n typed) (sym none)

  pub rule_planned : (name : List ℕ) (mask : ℕ) (ruled o : Outcome) → Some name ≡ subject_kept ks (subject_of h) → mask ≡ ruling_mask c
      → IsRuled ks (ruling_plan directory name (marked_at name ks).buffer.entries c n typed) ruled → IsJudged directory ks h.user name mask ruled o
      → IsOutcome directory ks xs next h (Run (command_of c) n typed) o
  rule_planned name mask ruled o shown mask_is does planned = λ stored.
      let state = state_of h.state in
      let v = view_at directory ks xs next h in
      let done = effects state (ruling_plan directory name (marked_at name ks).buffer.entries c n typed) in
      unstored v (Run (command_of c) n typed) stored (no_save c n typed)
      ∙ ruling_known directory ks xs next h c n typed unnamed
      ∙ ap (λ s. ruling_outcome directory ks state h.user s c n typed) (sym shown)
      ∙ ap (λ (m : ℕ). permitted state (rights_decision directory ks h.user name m) done) (sym mask_is)
      ∙ ap (permitted state (rights_decision directory ks h.user name mask)) (sym (does v stored))
      ∙ planned v stored

-- an empty name is none
pub no_empty_name : (ks : List MarkedBuffer) (o : Option (List ℕ)) → IfSome o (λ n. n ≡ []) → IfSome o (λ n. IsName n) → is_some o ≡ has_buffer [] ks → has_buffer [] ks ≡ false
no_empty_name ks None empty form there = sym there
no_empty_name ks (Some n) empty form there =
    let never : IsName [] = subst IsName empty form in cc
