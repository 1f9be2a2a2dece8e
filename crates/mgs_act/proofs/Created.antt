-- A buffer that is made, and one that goes again before a window shows it.
use Rattle.std.proofs.Common.{◌≡◌, ℕ, ◌<◌, Bool, true, false, cond, List, [], ◌∷◌, ◌++◌, length, map, Option, Some, None, get_or, refl, sym, ap, ap₂, subst, ◌∙◌, arith}
use Rattle.std.specs.Prelude.{find, is_some}
use Rattle.std.specs.List.{position_or_len}
use Rattle.std.proofs.lemmas.List.{map-append}
use Rattle.mgs_model.specs.Access.{Directory, decision}
use Rattle.mgs_model.specs.Names.{same_name}
use Rattle.mgs_model.specs.World.{Buffer, World, find_buffer, find_session, has_id, is_named}
use Rattle.mgs_model.specs.World as model
use Rattle.mgs_model.specs.Apply.{change_first, new_buffer, remove_first}
use Rattle.mgs_model.specs.declared.entry.Decision.TheVariants.{Granted}
use Rattle.mgs_buffers.proofs.Permitting.{owner_may_kill}
use Rattle.mgs_marks.specs.Marks.{mark_in, position_in}
use Rattle.mgs_buffers.specs.MarkedBuffer.{HasBuffer, MarkedBuffer, has_buffer, marked_at, marked_created, marked_named, marked_or_none, without_marked}
use Rattle.mgs_session.specs.declared.Session.{Session}
use Rattle.mgs_arrange.specs.Arranged.{run_ended}
use Rattle.mgs_arrange.specs.Showing.{shown_in, window_shows}
use Rattle.mgs_world.specs.Sound.{IsSound, in_use, one_if}
use Rattle.mgs_world.specs.WindowMarks.{MarksStay, SizesStay, WindowMarksDropped}
use Rattle.mgs_world.specs.Worlds.{buffers_of, id_after, session_id, session_of, size_found, size_named, world_of}
use Rattle.mgs_world.proofs.Killed.{buffers_killed, find_removed}
use Rattle.mgs_world.proofs.Marks.{is_same, other_name, same_is}
use Rattle.mgs_world.proofs.Sessions.{session_some}
use Rattle.mgs_world.proofs.Soundness.{sound_in_use, sound_same}
use Rattle.mgs_world.proofs.WindowMarks.{buffer_same, session_local, sessions_stay}
use Rattle.mgs_world.proofs.Worlds.{same_world}

-- LISTS

found_last : {A : Type 0} (p : A → Bool) (xs : List A) (y : A) → p y ≡ true → is_some (find p (xs ++ y ∷ [])) ≡ true
found_last p [] y e = ap (λ b. is_some (cond b (Some y) None)) e
found_last p (x ∷ xs) y e = elim (p x) as (λ b. is_some (cond b (Some x) (find p (xs ++ y ∷ []))) ≡ true) [ true ↦ refl | false ↦ found_last p xs y e ]

-- the last is the first that passes, and goes
removed_last : {A : Type 0} (p : A → Bool) (xs : List A) (y : A) → is_some (find p xs) ≡ false → p y ≡ true → remove_first p (xs ++ y ∷ []) ≡ xs
removed_last p [] y none e = ap (λ b. cond b [] (y ∷ [])) e
removed_last p (x ∷ xs) y none e = by (p x) none (λ none. removed_last p xs y none e)
  where
    by : (b : Bool) → is_some (cond b (Some x) (find p xs)) ≡ false → (is_some (find p xs) ≡ false → remove_first p (xs ++ y ∷ []) ≡ xs) → cond b (xs ++ y ∷ []) (x ∷ remove_first p (xs ++ y ∷ [])) ≡ x ∷ xs
    by true none later = cc
    by false none later = ap (λ ys. x ∷ ys) (later none)

-- A BUFFER WITHOUT MARKS COMES

marks_created : (m : List ℕ) (ks : List MarkedBuffer) (k : MarkedBuffer) → k.marks ≡ [] → (marked_at m (ks ++ k ∷ [])).marks ≡ (marked_at m ks).marks
marks_created m [] k e = elim (marked_named m k) as (λ b. (marked_or_none (cond b (Some k) None)).marks ≡ []) [ true ↦ e | false ↦ refl ]
marks_created m (x ∷ xs) k e =
    elim (marked_named m x) as (λ b. (marked_or_none (cond b (Some x) (find (marked_named m) (xs ++ k ∷ [])))).marks ≡ (marked_or_none (cond b (Some x) (find (marked_named m) xs))).marks) [ true ↦ refl | false ↦ marks_created m xs k e ]

use_created : (m : List ℕ) (i : ℕ) (ks : List MarkedBuffer) (k : MarkedBuffer) → k.marks ≡ [] → in_use m i (ks ++ k ∷ []) ≡ in_use m i ks
use_created m i ks k e = ap (λ (ms : List (Option ℕ)). one_if (is_some (mark_in ms i))) (marks_created m ks k e)

pub created_sound : (ks : List MarkedBuffer) (xs : List Session) (name owner : List ℕ) → IsSound ks xs → IsSound (ks ++ marked_created name owner ∷ []) xs
created_sound ks xs name owner sound = sound_same ks _ xs (λ m i. use_created m i ks (marked_created name owner) refl) sound

pub created_kept : (ks : List MarkedBuffer) (name owner : List ℕ) → HasBuffer name (ks ++ marked_created name owner ∷ [])
created_kept ks name owner = found_last (marked_named name) ks (marked_created name owner) (is_same name name refl)

pub created_buffers : (ks : List MarkedBuffer) (k : MarkedBuffer) → buffers_of (ks ++ k ∷ []) ≡ buffers_of ks ++ k.buffer ∷ []
created_buffers ks k = map-append (λ (k : MarkedBuffer). k.buffer) ks (k ∷ [])

-- an empty text has the length of one that is not there
size_created : (m : List ℕ) (bs : List Buffer) (b : Buffer) → b.text ≡ [] → size_named m (bs ++ b ∷ []) ≡ size_named m bs
size_created m [] b e = elim (is_named m b) as (λ c. size_found (cond c (Some b) None) ≡ 0) [ true ↦ ap (λ (t : List ℕ). length t) e | false ↦ refl ]
size_created m (x ∷ xs) b e =
    elim (is_named m x) as (λ c. size_found (cond c (Some x) (find_buffer m (xs ++ b ∷ []))) ≡ size_found (cond c (Some x) (find_buffer m xs))) [ true ↦ refl | false ↦ size_created m xs b e ]

sizes_created : (ks : List MarkedBuffer) (k : MarkedBuffer) → k.buffer.text ≡ [] → SizesStay (buffers_of ks) (buffers_of (ks ++ k ∷ []))
sizes_created ks k empty = λ n. ap (size_named n) (created_buffers ks k) ∙ size_created n (buffers_of ks) k.buffer empty

pub created_sessions : (ks : List MarkedBuffer) (k : MarkedBuffer) (xs : List Session) → k.marks ≡ [] → k.buffer.text ≡ [] → map (session_of (ks ++ k ∷ [])) xs ≡ map (session_of ks) xs
created_sessions ks k [] e empty = refl
created_sessions ks k (x ∷ xs) e empty =
    ap₂ (λ y ys. y ∷ ys)
    (session_local (ks ++ k ∷ []) ks x (sizes_created ks k empty) (λ n i used. ap (λ (ms : List (Option ℕ)). position_in ms i) (marks_created n ks k e)))
    (created_sessions ks k xs e empty)

-- IT GOES AGAIN: no mark of it is in use

none_in : (o : Option MarkedBuffer) (i : ℕ) → is_some o ≡ false → one_if (is_some (mark_in (marked_or_none o).marks i)) ≡ 0
none_in None i e = refl
none_in (Some k) i e = cc

module _ (name : List ℕ) (ks ls : List MarkedBuffer) (k : MarkedBuffer) (free : has_buffer name ks ≡ false) (named : marked_named name k ≡ true) (unmarked : k.marks ≡ []) (empty : k.buffer.text ≡ []) (dropped : WindowMarksDropped None (ks ++ k ∷ []) ls) (gone : has_buffer name (without_marked name ls) ≡ false) where
  unused : (i : ℕ) → in_use name i ls ≡ 0
  unused i = omega (arith, dropped.uses name i, use_created name i ks k unmarked, none_in (find (marked_named name) ks) i free)

  gone_marks : (n : List ℕ) → same_name name n ≡ false → (marked_at n (without_marked name ls)).marks ≡ (marked_at n ls).marks
  gone_marks n apart = ap (λ o. (marked_or_none o).marks) (find_removed (marked_named name) (marked_named n) (λ k e. other_name name n k.buffer.name apart e) ls)

  gone_use : (n : List ℕ) (i : ℕ) → in_use n i (without_marked name ls) ≡ in_use n i ls
  gone_use n i = by (same_name name n) refl
    where
      by : (b : Bool) → same_name name n ≡ b → in_use n i (without_marked name ls) ≡ in_use n i ls
      by true e =
          ap (λ m. in_use m i (without_marked name ls)) (sym (same_is name n e))
          ∙ none_in (find (marked_named name) (without_marked name ls)) i gone
          ∙ sym (unused i)
          ∙ ap (λ m. in_use m i ls) (same_is name n e)
      by false e = ap (λ (ms : List (Option ℕ)). one_if (is_some (mark_in ms i))) (gone_marks n e)

  gone_stay : MarksStay ls (without_marked name ls)
  gone_stay n i before after = by (same_name name n) refl
    where
      by : (b : Bool) → same_name name n ≡ b → position_in (marked_at n (without_marked name ls)).marks i ≡ position_in (marked_at n ls).marks i
      by true e = absurd (omega (arith, before, ap (λ m. in_use m i ls) (same_is name n e), unused i))
      by false e = ap (λ (ms : List (Option ℕ)). position_in ms i) (gone_marks n e)

  pub gone_sound : (ys : List Session) → IsSound ls ys → IsSound (without_marked name ls) ys
  gone_sound ys sound = sound_same ls _ ys gone_use sound

  gone_buffers : buffers_of (without_marked name ls) ≡ buffers_of ks
  gone_buffers =
      buffers_killed name ls
      ∙ ap (remove_first (is_named name)) dropped.buffers
      ∙ sym (buffers_killed name (ks ++ k ∷ []))
      ∙ ap (λ (ms : List MarkedBuffer). buffers_of ms) (removed_last (marked_named name) ks k free named)

  pub gone_world : (xs ys : List Session) (directory : Directory) (next : Option ℕ) → IsSound ls ys → world_of directory ls ys next ≡ world_of directory (ks ++ k ∷ []) xs next → world_of directory (without_marked name ls) ys next ≡ world_of directory ks xs next
  gone_world xs ys directory next sound same =
      same_world directory _ _ _ _ (id_after next) gone_buffers
      (sessions_stay ls (without_marked name ls) ys (sound_in_use ls ys sound) (sound_in_use (without_marked name ls) ys (gone_sound ys sound)) (λ n. ap (size_named n) gone_buffers ∙ sym (sizes_created ks k empty n) ∙ sym (ap (size_named n) dropped.buffers)) gone_stay
      ∙ ap (λ (w : World). w.sessions) same
      ∙ created_sessions ks k xs unmarked empty)

-- where the buffer that was made is taken out again, all is as it was
module _ (name owner : List ℕ) (ks cs ls ms : List MarkedBuffer) (ys : List Session) (free : has_buffer name ks ≡ false) (cs_is : cs ≡ ks ++ marked_created name owner ∷ []) (dropped : WindowMarksDropped None cs ls) (ms_is : ms ≡ without_marked name ls) (gone : has_buffer name ms ≡ false) (sound : IsSound ls ys) where
  dropped_so : WindowMarksDropped None (ks ++ marked_created name owner ∷ []) ls
  dropped_so = subst (λ bs. WindowMarksDropped None bs ls) cs_is dropped

  gone_so : has_buffer name (without_marked name ls) ≡ false
  gone_so = sym (ap (has_buffer name) ms_is) ∙ gone

  pub unmade_sound : IsSound ms ys
  unmade_sound =
      subst (λ bs. IsSound bs ys) (sym ms_is) (gone_sound name ks ls (marked_created name owner) free (is_same name name refl) refl refl dropped_so gone_so ys sound)

  pub unmade_world : (xs : List Session) (directory : Directory) (next : Option ℕ) → world_of directory ls ys next ≡ world_of directory cs xs next → world_of directory ms ys next ≡ world_of directory ks xs next
  unmade_world xs directory next same =
      ap (λ bs. world_of directory bs ys next) ms_is
      ∙ gone_world name ks ls (marked_created name owner) free (is_same name name refl) refl refl dropped_so gone_so xs ys directory next sound (same ∙ ap (λ bs. world_of directory bs xs next) cs_is)

-- it may be killed by its owner, where no more than marks came and went since
pub made_last : (name : List ℕ) (ks : List MarkedBuffer) (k : MarkedBuffer) → has_buffer name ks ≡ false → marked_named name k ≡ true → find (marked_named name) (ks ++ k ∷ []) ≡ Some k
made_last name [] k free is = ap (λ b. cond b (Some k) None) is
made_last name (x ∷ xs) k free is = by (marked_named name x) free (λ rest. made_last name xs k rest is)
  where
    by : (b : Bool) → is_some (cond b (Some x) (find (marked_named name) xs)) ≡ false → (has_buffer name xs ≡ false → find (marked_named name) (xs ++ k ∷ []) ≡ Some k) → cond b (Some x) (find (marked_named name) (xs ++ k ∷ [])) ≡ Some k
    by true none later = cc
    by false none later = later none

pub made_kept : (name owner : List ℕ) (ks cs ls : List MarkedBuffer) → has_buffer name ks ≡ false → cs ≡ ks ++ marked_created name owner ∷ [] → WindowMarksDropped None cs ls → HasBuffer name ls × ((marked_at name ls).buffer ≡ new_buffer name owner)
made_kept name owner ks cs ls free cs_is dropped =
    let k = marked_created name owner in
    let kept : HasBuffer name cs = subst (HasBuffer name) (sym cs_is) (created_kept ks name owner) in
    let same = buffer_same name cs ls kept dropped.buffers in
    let last = ap (find (marked_named name)) cs_is ∙ made_last name ks k free (is_same name name refl) in
    (same.0, same.1 ∙ ap (λ (o : Option MarkedBuffer). (marked_or_none o).buffer) last)

pub made_granted : (d : Directory) (name owner : List ℕ) (ks cs ls : List MarkedBuffer) → has_buffer name ks ≡ false → cs ≡ ks ++ marked_created name owner ∷ [] → WindowMarksDropped None cs ls → (let b = (marked_at name ls).buffer in decision d b.owners owner b.entries 65536 ≡ Granted)
made_granted d name owner ks cs ls free cs_is dropped =
    ap (λ (b : Buffer). decision d b.owners owner b.entries 65536) (made_kept name owner ks cs ls free cs_is dropped).1 ∙ owner_may_kill d name owner

-- the world in which a session of an id shows a buffer that was made for its user
abbrev pub created_in : ℕ → List ℕ → model.Session → World → World
created_in id name x w = record (shown_in id name x w) { buffers = w.buffers ++ new_buffer name x.user ∷ [] }

-- where it is shown
pub made_world : (directory : Directory) (ks cs ls : List MarkedBuffer) (xs ys : List Session) (next : Option ℕ) (id at : ℕ) (name : List ℕ) (h : Session) (x : model.Session) → cs ≡ ks ++ marked_created name h.user ∷ [] → at ≡ position_or_len (session_id id) xs → at < length xs → h ≡ get_or xs at h → find_session id (world_of directory ks xs next).sessions ≡ Some x
    → (find_session id (world_of directory cs xs next).sessions ≡ Some x → world_of directory ls ys next ≡ shown_in id name x (world_of directory cs xs next)) → world_of directory ls ys next ≡ created_in id name x (world_of directory ks xs next)
made_world directory ks cs ls xs ys next id at name h x cs_is place within is found shown =
    let k = marked_created name h.user in
    let seen : map (session_of cs) xs ≡ map (session_of ks) xs = ap (λ bs. map (session_of bs) xs) cs_is ∙ created_sessions ks k xs refl refl in
    let user : h.user ≡ x.user = ap user_of (sym (session_some directory ks xs next id at h place within is) ∙ found) in
    shown (ap (find_session id) seen ∙ found)
    ∙ same_world directory _ _ _ _ (id_after next)
    (ap (λ bs. buffers_of bs) cs_is ∙ created_buffers ks k ∙ ap (λ owner. buffers_of ks ++ new_buffer name owner ∷ []) user)
    (ap (change_first (has_id id) (λ old. run_ended (window_shows name x))) seen)
  where
    user_of : Option model.Session → List ℕ
    user_of None = []
    user_of (Some x) = x.user
