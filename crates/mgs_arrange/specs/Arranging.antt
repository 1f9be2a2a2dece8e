-- What an arrangement does to the marks of its session.
use Rattle.std.specs.Prelude.{◌≡◌, ℕ, List, Option, Some, None, Ok}
use Rattle.std.specs.Option.{option_map}
use Rattle.mgs_model.specs.World as model
use Rattle.mgs_model.specs.declared.session.Arrangement.{Arrangement}
use Rattle.mgs_model.specs.declared.session.Arrangement.TheVariants.{SplitWindow}
use Rattle.mgs_buffers.specs.MarkedBuffer.{MarkedBuffer, mark_at}
use Rattle.mgs_windows.specs.declared.WindowMarks.{WindowMarks}
use Rattle.mgs_session.specs.declared.Session.{Session}
use Rattle.mgs_world.specs.Worlds.{session_of, size_in}
use Rattle.mgs_world.specs.Only.{OnlyThis, nothing_held}
use Rattle.mgs_world.specs.Sound.{session_uses}
use Rattle.mgs_world.specs.WindowMarks.{WindowMarksAdded}
use Rattle.mgs_arrange.specs.Arranged.{rearranged, arranged_or_told, run_ended, window_split}

-- nothing but this session changed, with the marks that it uses
abbrev pub Rearranged : List MarkedBuffer → List MarkedBuffer → Session → Session → Type 0
Rearranged ks ls x y = OnlyThis nothing_held ks ls x y

-- the session is as the arrangement leaves its windows
abbrev pub IsArranged : Arrangement → Option ℕ → List MarkedBuffer → List MarkedBuffer → Session → Session → Type 0
IsArranged c n ks ls x y = session_of ls y ≡ arranged_or_told (rearranged c n (session_of ks x)) (session_of ks x)

-- and as the act leaves it
abbrev pub IsDone : Arrangement → Option ℕ → List MarkedBuffer → List MarkedBuffer → Session → Session → Type 0
IsDone c n ks ls x y = session_of ls y ≡ run_ended (arranged_or_told (rearranged c n (session_of ks x)) (session_of ks x))

-- the same marks once more
abbrev pub IsCopied : Option WindowMarks → Option WindowMarks → List MarkedBuffer → List MarkedBuffer → Type 0
IsCopied None None ks ls = ls ≡ ks
IsCopied None (Some y) ks ls = ⊥
IsCopied (Some x) None ks ls = ⊥
IsCopied (Some x) (Some y) ks ls = WindowMarksAdded x.name (mark_at x.name ks x.point) (option_map (mark_at x.name ks) x.mark) (mark_at x.name ks x.top) y ks ls

-- no mark is used that was not, or the other way round
pub record IsResized (x y : Session) : Type 0 where
  pub uses : (m : List ℕ) (i : ℕ) → session_uses m i y ≡ session_uses m i x
  pub size : size_in y ≡ size_in x

-- the session's window can be split
abbrev pub MayBeSplit : Option ℕ → model.Session → Type 0
MayBeSplit n x = rearranged SplitWindow n x ≡ Ok (window_split x)

-- only a split takes memory, where it is made
abbrev pub MayBeRefused : Arrangement → Option ℕ → model.Session → Type 0
MayBeRefused SplitWindow n x = MayBeSplit n x
MayBeRefused _ n x = ⊥
