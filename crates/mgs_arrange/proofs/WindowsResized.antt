-- Rows go from one window to another.
use Rattle.std.proofs.Common.{◌≡◌, ℕ, ◌<◌, ◌≤◌, Bool, true, false, cond, List, length, map, refl, sym, ap, ◌∙◌, arith}
use Rattle.std.specs.Prelude.{nat_le, Ok, Err}
use Rattle.std.proofs.lemmas.Bool.Decides.{nat_tests}
use Rattle.mgs_model.specs.Apply.{change_at}
use Rattle.mgs_model.specs.declared.echo_text.Message.TheVariants.{Says}
use Rattle.mgs_model.specs.declared.echo_text.Notice.TheVariants.{ImpossibleChange}
use Rattle.mgs_buffers.specs.MarkedBuffer.{MarkedBuffer}
use Rattle.mgs_windows.specs.Panes as panes
use Rattle.mgs_windows.specs.Panes.{given, height_at}
use Rattle.mgs_windows.specs.declared.Window.{Window}
use Rattle.mgs_session.specs.declared.Session.{Session}
use Rattle.mgs_session.specs.Sessions.{broken_off}
use Rattle.mgs_world.specs.Worlds.{session_of, window_of}
use Rattle.mgs_world.specs.Sound.{window_uses}
use Rattle.mgs_world.proofs.Worlds.{same_windows}
use Rattle.mgs_arrange.specs.Arranged.{arranged_or_told, grown, rows_given, rows_given_if, shrunk}
use Rattle.mgs_arrange.specs.Arranging.{IsResized}
use Rattle.mgs_arrange.proofs.WindowsGone.{height_seen, map_changed, seen_grown, seen_shrunk, sum_changed}

pub given_uses : (from to n : ℕ) (x : Session) → IsResized x (record x { windows = record x.windows { windows = given from to n x.windows.windows } })
given_uses from to n x = record {
  uses = λ m i. omega (arith, sum_changed (window_uses m i) (panes.shrunk n) from (change_at to (panes.grown n) x.windows.windows) (λ w. refl), sum_changed (window_uses m i) (panes.grown n) to x.windows.windows (λ w. refl));
  size = refl;
}

windows_given : (ks : List MarkedBuffer) (from to n : ℕ) (xs : List Window) → map (window_of ks) (given from to n xs) ≡ change_at from (shrunk n) (change_at to (grown n) (map (window_of ks) xs))
windows_given ks from to n xs =
    map_changed (window_of ks) (panes.shrunk n) (shrunk n) from (change_at to (panes.grown n) xs) (seen_shrunk ks n)
    ∙ ap (change_at from (shrunk n)) (map_changed (window_of ks) (panes.grown n) (grown n) to xs (seen_grown ks n))

pub given_so : (from to n : ℕ) (ks : List MarkedBuffer) (x : Session) → from < length x.windows.windows → n < height_at from x.windows.windows → session_of ks (record x { windows = record x.windows { windows = given from to n x.windows.windows } }) ≡ arranged_or_told (rows_given_if from to n (session_of ks x)) (session_of ks x)
given_so from to n ks x within stays =
    let s = session_of ks x in
    let more : nat_le (height_at from x.windows.windows) n ≡ false = grind (arith, nat_tests, stays) in
    same_windows s _ _ (windows_given ks from to n x.windows.windows)
    ∙ sym (ap (λ (b : Bool). arranged_or_told (cond b (Err (Says ImpossibleChange)) (Ok (rows_given from to n s))) s) (ap (λ (h : ℕ). nat_le h n) (height_seen ks from x.windows.windows within) ∙ more))

pub given_not : (from to n : ℕ) (ks : List MarkedBuffer) (x : Session) → from < length x.windows.windows → height_at from x.windows.windows ≤ n → session_of ks (broken_off (Says ImpossibleChange) x) ≡ arranged_or_told (rows_given_if from to n (session_of ks x)) (session_of ks x)
given_not from to n ks x within few =
    let s = session_of ks x in
    let less : nat_le (height_at from x.windows.windows) n ≡ true = grind (arith, nat_tests, few) in
    sym (ap (λ (b : Bool). arranged_or_told (cond b (Err (Says ImpossibleChange)) (Ok (rows_given from to n s))) s) (ap (λ (h : ℕ). nat_le h n) (height_seen ks from x.windows.windows within) ∙ less))
