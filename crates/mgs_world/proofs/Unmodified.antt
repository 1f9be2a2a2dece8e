-- A modified flag is cleared: no position moves.
use Rattle.std.proofs.Common.{◌≡◌, ℕ, List, map, refl}
use Rattle.mgs_model.specs.World.{is_named}
use Rattle.mgs_model.specs.Apply.{buffer_unmodified, change_first}
use Rattle.mgs_buffers.specs.MarkedBuffer.{MarkedBuffer, marked_at, marked_named, marked_unmodified}
use Rattle.mgs_session.specs.declared.Session.{Session}
use Rattle.mgs_world.specs.Sound.{IsSound}
use Rattle.mgs_world.specs.Worlds.{buffers_of, session_of}
use Rattle.mgs_world.proofs.Attributes.{buffers_by, marks_by, sessions_by, sound_by}

pub buffers_unmodified : (n : List ℕ) (ks : List MarkedBuffer) → buffers_of (change_first (marked_named n) marked_unmodified ks) ≡ change_first (is_named n) buffer_unmodified (buffers_of ks)
buffers_unmodified n ks = buffers_by buffer_unmodified (λ b. refl) n ks

pub marks_unmodified : (n m : List ℕ) (ks : List MarkedBuffer) → (marked_at m (change_first (marked_named n) marked_unmodified ks)).marks ≡ (marked_at m ks).marks
marks_unmodified n m ks = marks_by buffer_unmodified (λ b. refl) n m ks

pub sound_unmodified : (n : List ℕ) (ks : List MarkedBuffer) (xs : List Session) → IsSound ks xs → IsSound (change_first (marked_named n) marked_unmodified ks) xs
sound_unmodified n ks xs sound = sound_by buffer_unmodified (λ b. refl) n ks xs sound

pub sessions_unmodified : (n : List ℕ) (ks : List MarkedBuffer) (xs : List Session) → map (session_of (change_first (marked_named n) marked_unmodified ks)) xs ≡ map (session_of ks) xs
sessions_unmodified n ks xs = sessions_by buffer_unmodified (λ b. refl) (λ b. refl) n ks xs
