-- Attributes of a buffer change, and not its marks: no position moves.
use Rattle.std.proofs.Common.{◌≡◌, ℕ, Bool, true, false, List, [], ◌∷◌, length, map, Option, Some, None, refl, sym, ap, ap₂, ◌∙◌}
use Rattle.std.specs.Prelude.{find, is_some}
use Rattle.std.specs.Option.{option_map}
use Rattle.mgs_model.specs.Names.{same_name}
use Rattle.mgs_model.specs.World.{Buffer, find_buffer, is_named}
use Rattle.mgs_model.specs.Apply.{change_first}
use Rattle.mgs_model.proofs.Firsts.{find-change_first, find-change_first_other, map-change_first}
use Rattle.mgs_marks.specs.Marks.{mark_in, position_in}
use Rattle.mgs_buffers.specs.MarkedBuffer.{MarkedBuffer, marked_at, marked_named, marked_or_none}
use Rattle.mgs_session.specs.declared.Session.{Session}
use Rattle.mgs_world.specs.Sound.{IsSound, one_if}
use Rattle.mgs_world.specs.Worlds.{buffers_of, session_of, size_found, size_named}
use Rattle.mgs_world.proofs.Marks.{found_other, found_same, other_name, same_is}
use Rattle.mgs_world.proofs.Soundness.{sound_same}
use Rattle.mgs_world.proofs.WindowMarks.{session_local}

-- the buffer changed, and its marks as they are
abbrev pub marked_by : (Buffer → Buffer) → MarkedBuffer → MarkedBuffer
marked_by f k = record { buffer = f k.buffer; marks = k.marks }

module _ (f : Buffer → Buffer) (named : (b : Buffer) → (f b).name ≡ b.name) where
  pub buffers_by : (n : List ℕ) (ks : List MarkedBuffer) → buffers_of (change_first (marked_named n) (marked_by f) ks) ≡ change_first (is_named n) f (buffers_of ks)
  buffers_by n ks =
      map-change_first (λ (k : MarkedBuffer). k.buffer) (marked_named n) (is_named n) (marked_by f) f (λ k. refl) (λ k e. refl) ks

  pub marks_by : (n m : List ℕ) (ks : List MarkedBuffer) → (marked_at m (change_first (marked_named n) (marked_by f) ks)).marks ≡ (marked_at m ks).marks
  marks_by n m ks = go (same_name n m) refl
    where
      same : (o : Option MarkedBuffer) → (marked_or_none (option_map (marked_by f) o)).marks ≡ (marked_or_none o).marks
      same None = refl
      same (Some k) = refl

      go : (r : Bool) → same_name n m ≡ r → (marked_at m (change_first (marked_named n) (marked_by f) ks)).marks ≡ (marked_at m ks).marks
      go true e = ap (λ o. (marked_or_none o).marks) (found_same n m (marked_by f) ks (λ k. named k.buffer) e) ∙ same (find (marked_named m) ks)
      go false e = ap (λ o. (marked_or_none o).marks) (found_other n m (marked_by f) ks (λ k. named k.buffer) e)

  pub sound_by : (n : List ℕ) (ks : List MarkedBuffer) (xs : List Session) → IsSound ks xs → IsSound (change_first (marked_named n) (marked_by f) ks) xs
  sound_by n ks xs sound =
      sound_same ks _ xs (λ m i. ap (λ (ms : List (Option ℕ)). one_if (is_some (mark_in ms i))) (marks_by n m ks)) sound

  -- where it keeps its text, all texts are as long as they were
  size_by : ((b : Buffer) → (f b).text ≡ b.text) → (n m : List ℕ) (bs : List Buffer) → size_named m (change_first (is_named n) f bs) ≡ size_named m bs
  size_by text n m bs = go (same_name n m) refl
    where
      same : (o : Option Buffer) → size_found (option_map f o) ≡ size_found o
      same None = refl
      same (Some b) = ap length (text b)

      go : (r : Bool) → same_name n m ≡ r → size_named m (change_first (is_named n) f bs) ≡ size_named m bs
      go true e =
          let is : n ≡ m = same_is n m e in
          ap (λ k. size_named k (change_first (is_named n) f bs)) (sym is)
          ∙ ap size_found (find-change_first (is_named n) f (λ b. ap (same_name n) (named b)) bs)
          ∙ same (find_buffer n bs)
          ∙ ap (λ k. size_named k bs) is
      go false e = ap size_found (find-change_first_other (is_named n) (is_named m) f (λ b. ap (same_name m) (named b)) (λ b. other_name n m b.name e) bs)

  pub sessions_by : ((b : Buffer) → (f b).text ≡ b.text) → (n : List ℕ) (ks : List MarkedBuffer) (xs : List Session) → map (session_of (change_first (marked_named n) (marked_by f) ks)) xs ≡ map (session_of ks) xs
  sessions_by text n ks [] = refl
  sessions_by text n ks (x ∷ xs) = ap₂ (λ y ys. y ∷ ys)
      (session_local _ ks x (λ m. ap (size_named m) (buffers_by n ks) ∙ size_by text n m (buffers_of ks)) (λ m i used. ap (λ (ms : List (Option ℕ)). position_in ms i) (marks_by n m ks)))
      (sessions_by text n ks xs)
