-- A session opens: what its window shows, where others stand, and why it may be refused.
use Rattle.std.proofs.Common.{◌≡◌, ℕ, ◌+◌, ◌-◌, ◌≤◌, ◌^◌, Bool, true, false, not, cond, List, [], ◌∷◌, ◌++◌, length, map, Option, Some, None, Ok, Err, refl, sym, ap, ◌∙◌, arith}
use Rattle.std.specs.Prelude.{find, is_some, max, nat_le, ◌&&◌, ◌||◌, if◌then◌else◌}
use Rattle.std.specs.Option.{option_map, option_or}
use Rattle.std.proofs.lemmas.List.{length-map, map-append}
use Rattle.mgs_model.specs.Names.{same_name}
use Rattle.mgs_model.specs.Picture.{IsSize}
use Rattle.mgs_model.specs.Access.{Directory, is_among}
use Rattle.mgs_model.specs.World.{World, Buffer, Buffer_of, may}
use Rattle.mgs_model.specs.World as model
use Rattle.mgs_model.specs.Events.{can_open, first_shows, is_open, is_size, session_fault, open_fault, new_session, opened, settled}
use Rattle.mgs_model.specs.declared.errors.OpenFault.{OpenFault}
use Rattle.mgs_model.specs.declared.limits.TheConstants.{SESSION_LIMIT}
use Rattle.mgs_model.specs.declared.errors.OpenFault.TheVariants.{NoUser, Size, Full, Short}
use Rattle.mgs_buffers.specs.MarkedBuffer.{MarkedBuffer}
use Rattle.mgs_windows.specs.declared.WindowMarks.{WindowMarks}
use Rattle.mgs_windows.specs.declared.RowPane.TheVariants.{NoRows}
use Rattle.mgs_session.specs.Sessions.{session_opened}
use Rattle.mgs_session.specs.declared.Session.{Session}
use Rattle.mgs_world.specs.Worlds.{buffers_of, id_after, session_of, window_shown, world_of}
use Rattle.mgs_world.specs.Sound.{IsSound, in_use}
use Rattle.mgs_world.specs.WindowMarks.{FirstWindowMarks, MarksStay, WindowMarksDropped, first_name, window_marks_name}
use Rattle.mgs_model.specs.declared.right.Right.TheVariants.{ReadAttributes}
use Rattle.mgs_core.specs.Calls.{OpenAnswers, OpenedBy}
use Rattle.mgs_model.proofs.Firsts.{found_passes}
use Rattle.mgs_core.proofs.Stays.{opened_rests}
use Rattle.mgs_world.proofs.Marks.{same_is}
use Rattle.mgs_world.proofs.Worlds.{same_window, same_windows, same_world}
use Rattle.mgs_world.proofs.Soundness.{AreInUse, in_use_more, sound_in_use}
use Rattle.mgs_world.proofs.WindowMarks.{same_sizes, sessions_stay}

-- WHAT THE FIRST WINDOW SHOWS

first_kept : (o : Option WindowMarks) (ks ls : List MarkedBuffer) → FirstWindowMarks o ks ls → (buffers_of ls ≡ buffers_of ks) × MarksStay ks ls × ((m : List ℕ) (i : ℕ) → in_use m i ks ≤ in_use m i ls)
first_kept None ks ls h = (h.buffers, h.stay, λ m i. omega (arith, h.uses m i))
first_kept (Some x) ks ls h = (h.buffers, h.stay, λ m i. omega (arith, h.uses m i))

first_window : (o : Option WindowMarks) (b : Option Buffer) (ks ls : List MarkedBuffer) (height : ℕ) → FirstWindowMarks o ks ls → window_marks_name o ≡ option_map (λ (b : Buffer). b.name) b → window_shown ls height o NoRows ≡ record { shows = first_shows b; point = 0; mark = None; top = 0; row = 0; height = height }
first_window None None ks ls height h e = refl
first_window None (Some b) ks ls height h e = cc
first_window (Some x) None ks ls height h e = cc
first_window (Some x) (Some b) ks ls height h e =
    let named : x.name ≡ b.name = cc in
    same_window (Buffer_of x.name) _ 0 _ None _ 0 0 height h.point h.mark h.top
    ∙ ap (λ (n : List ℕ). let w : model.Window = record { shows = Buffer_of n; point = 0; mark = None; top = 0; row = 0; height = height } in w) named

session_new : (d : Directory) (ks ls : List MarkedBuffer) (id : ℕ) (user : List ℕ) (rows cols : ℕ) (o : Option WindowMarks) (capacity : ℕ) → FirstWindowMarks o ks ls → window_marks_name o ≡ first_name d user ks → session_of ls (session_opened id user rows cols o capacity) ≡ new_session d (buffers_of ks) id user rows cols
session_new d ks ls id user rows cols o capacity h named =
    same_windows (session_of ls (session_opened id user rows cols o capacity)) _ _
    (ap (λ (w : model.Window). w ∷ []) (first_window o (find (may d user ReadAttributes) (buffers_of ks)) ks ls (rows - 2) h named))

-- THE WORLD AFTER

-- where marks of nobody came and went
world_stays : (d : Directory) (ks ls : List MarkedBuffer) (xs : List Session) (next : Option ℕ) → AreInUse ks xs → AreInUse ls xs → buffers_of ls ≡ buffers_of ks → MarksStay ks ls → world_of d ls xs next ≡ world_of d ks xs next
world_stays d ks ls xs next before after buffers stay = same_world d _ _ _ _ (id_after next) buffers (sessions_stay ks ls xs before after (same_sizes ks ls buffers) stay)

pub world_undone : (d : Directory) (ks ls : List MarkedBuffer) (xs : List Session) (next : Option ℕ) → IsSound ks xs → WindowMarksDropped None ks ls → world_of d ls xs next ≡ world_of d ks xs next
world_undone d ks ls xs next sound h =
    let used = sound_in_use ks xs sound in
    world_stays d ks ls xs next used (in_use_more ks ls xs (first_kept None ks ls h).2 used) h.buffers h.stay

next_above : (id : ℕ) → id + 1 ≡ max id (id + 1)
next_above id = omega arith

-- ys are the sessions with the new one
pub opened_at : (d : Directory) (ks ls : List MarkedBuffer) (xs ys : List Session) (id : ℕ) (user : List ℕ) (rows cols : ℕ) (o : Option WindowMarks) (capacity : ℕ) → IsSound ks xs → FirstWindowMarks o ks ls → window_marks_name o ≡ first_name d user ks
    → ys ≡ xs ++ session_opened id user rows cols o capacity ∷ []
    → world_of d ls ys (Some (id + 1)) ≡ opened (world_of d ks xs (Some id)) id user rows cols
opened_at d ks ls xs ys id user rows cols o capacity sound h named more =
    let y = session_opened id user rows cols o capacity in
    let used = sound_in_use ks xs sound in
    let kept = first_kept o ks ls h in
    let seen : map (session_of ls) (xs ++ y ∷ []) ≡ map (session_of ks) xs ++ new_session d (buffers_of ks) id user rows cols ∷ [] =
    map-append (session_of ls) xs (y ∷ [])
    ∙ ap (λ (ss : List model.Session). ss ++ session_of ls y ∷ []) (sessions_stay ks ls xs used (in_use_more ks ls xs kept.2 used) (same_sizes ks ls kept.0) kept.1)
    ∙ ap (λ (s : model.Session). map (session_of ks) xs ++ s ∷ []) (session_new d ks ls id user rows cols o capacity h named) in
    ap (λ (zs : List Session). world_of d ls zs (Some (id + 1))) more ∙ same_world d _ _ _ _ (id + 1) kept.0 seen
    ∙ ap (λ (n : ℕ). record (opened (world_of d ks xs (Some id)) id user rows cols) { next_id = n }) (next_above id)

-- WHY NOT

among : (user : List ℕ) (users : List (List ℕ)) → is_some (find (same_name user) users) ≡ is_among user users
among user [] = refl
among user (x ∷ xs) =
    elim (same_name user x) as (λ b. is_some (cond b (Some x) (find (same_name user) xs)) ≡ (b || is_among user xs)) [ true ↦ refl | false ↦ among user xs ]

-- who is found is the one who was named
user_found : (user found : List ℕ) (users : List (List ℕ)) → find (same_name user) users ≡ Some found → found ≡ user
user_found user found users e = sym (same_is user found (found_passes (same_name user) users found e))

-- the four questions in order
abbrev pub fault_of : Bool → Bool → Bool → Bool → Option OpenFault
fault_of known fits many used =
    option_or (if not known then Some NoUser else if not fits then Some Size else if many then Some Full else None) (if used then Some Full else None)

never_short : {X : Type 0} (known fits many used : Bool) → fault_of known fits many used ≡ Some Short → X
never_short false fits many used e = cc
never_short true false many used e = cc
never_short true true true used e = cc
never_short true true false true e = cc
never_short true true false false e = cc

pub fault_is : (w : World) (user : List ℕ) (rows cols : ℕ) (known fits many used : Bool) → is_some (find (same_name user) w.directory.users) ≡ known → is_size rows cols ≡ fits → nat_le SESSION_LIMIT (length w.sessions) ≡ many → nat_le (2 ^ 64) w.next_id ≡ used
    → open_fault w user rows cols ≡ fault_of known fits many used
fault_is w user rows cols known fits many used user_is fits_is many_is used_is = λ i. fault_of ((sym (among user w.directory.users) ∙ user_is) i) (fits_is i) (many_is i) (used_is i)

pub no_user : (w : World) (user : List ℕ) (rows cols : ℕ) → is_some (find (same_name user) w.directory.users) ≡ false → open_fault w user rows cols ≡ Some NoUser
no_user w user rows cols none = fault_is w user rows cols false _ _ _ none refl refl refl

-- as many sessions as are kept
pub many_sessions : (d : Directory) (ks : List MarkedBuffer) (xs : List Session) (next : Option ℕ) (n : ℕ) → n ≡ length xs → nat_le SESSION_LIMIT (length (world_of d ks xs next).sessions) ≡ nat_le SESSION_LIMIT n
many_sessions d ks xs next n is = ap (nat_le SESSION_LIMIT) (length-map xs (session_of ks) ∙ sym is)

-- THE ANSWER

first_none : {A : Type 0} (a b : Option A) → option_or a b ≡ None → a ≡ None
first_none None b e = refl
first_none (Some x) b e = cc

answers : (w : World) (user : List ℕ) (rows cols : ℕ) (fault : OpenFault) → open_fault w user rows cols ≡ Some fault → OpenAnswers (Err fault) (open_fault w user rows cols)
answers w user rows cols Short e = never_short (is_among user w.directory.users) (is_size rows cols) (nat_le SESSION_LIMIT (length w.sessions)) (nat_le (2 ^ 64) w.next_id) e
answers w user rows cols _ e = e

pub opened_fault : (w : World) (user : List ℕ) (rows cols : ℕ) (fault : OpenFault) → open_fault w user rows cols ≡ Some fault → OpenedBy w w user rows cols (Err fault)
opened_fault w user rows cols fault e = record { ok = tt; err = refl; answer = answers w user rows cols fault e }

-- the world of a server that keeps xs and ks, and then ys and ls
pub opened_is : (w : World) (d : Directory) (ks ls : List MarkedBuffer) (xs ys : List Session) (now after : Option ℕ) (id : ℕ) (user found : List ℕ) (rows cols : ℕ) → world_of d ks xs now ≡ w → now ≡ Some id → id_after after ≡ id + 1 → find (same_name user) d.users ≡ Some found
    → world_of d ls ys (Some (id + 1)) ≡ opened (world_of d ks xs (Some id)) id found rows cols
    → world_of d ls ys after ≡ opened w id user rows cols
opened_is w d ks ls xs ys now after id user found rows cols view is behind named done =
    ap (λ (n : ℕ). let v : World = record { directory = d; buffers = buffers_of ls; sessions = map (session_of ls) ys; next_id = n } in v) behind
    ∙ done
    ∙ ap (λ (o : Option ℕ). opened (world_of d ks xs o) id found rows cols) (sym is)
    ∙ ap (λ (v : World). opened v id found rows cols) view
    ∙ ap (λ (u : List ℕ). opened w id u rows cols) (user_found user found d.users named)

-- and its answer
pub opened_by : (w v : World) (d : Directory) (ks : List MarkedBuffer) (xs : List Session) (now : Option ℕ) (id : ℕ) (user : List ℕ) (rows cols : ℕ) → world_of d ks xs now ≡ w → now ≡ Some id → open_fault w user rows cols ≡ None → IsSize rows cols → settled w ≡ w → is_open id w ≡ false → v ≡ opened w id user rows cols → OpenedBy w v user rows cols (Ok id)
opened_by w v d ks xs now id user rows cols view is well size rests fresh done =
    let can : can_open w id user rows cols ≡ true =
    ap (λ (o : Option OpenFault). not (is_some o) && not (is_open id w)) (first_none (session_fault w user rows cols) (if nat_le (2 ^ 64) w.next_id then Some Full else None) well) ∙ ap not fresh in
    record {
      ok = (
        sym (ap id_after is) ∙ ap (λ (u : World). u.next_id) view,
        can,
        done ∙ sym (opened_rests w id user rows cols (omega (arith, size.some_rows)) rests) ∙ sym (ap (λ (b : Bool). cond b (settled (opened w id user rows cols)) w) can),
      );
      err = tt;
      answer = well;
    }
