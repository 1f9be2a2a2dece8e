-- What is kept of drawn texts stays true.
use Rattle.std.proofs.Common.{◌≡◌, ℕ, zero, suc, ◌+◌, ◌<◌, ◌≤◌, Bool, true, false, List, [], ◌∷◌, ◌++◌, length, take, drop, Some, None, inl, inr, sym, ap, subst, ◌∙◌, arith, append_assoc, length-append, length-drop}
use Rattle.std.specs.Prelude.{Option, IfSome, slice_get, if◌then◌else◌, ◌⊎◌, ◌==◌}
use Rattle.std.proofs.Math.Seq.{take-append_seam, drop-append-add}
use Rattle.std.proofs.lemmas.Option.{same_Some, none-some}
use Rattle.std.proofs.lemmas.List.{take-append-drop, drop-drop, drop-take, length-take-le}
use Rattle.mgs_laws.specs.Apart.{AreFollowed}
use Rattle.mgs_model.specs.Picture.{Picture}
use Rattle.mgs_model.specs.Rows.{Row, mode_row, shift_at}
use Rattle.mgs_grid.specs.Cells.{rows_put}
use Rattle.mgs_model.specs.World.{Buffer, find_buffer}
use Rattle.mgs_laws.proofs.Follow.{follows_then, follows_same}
use Rattle.mgs_grid.proofs.Panes.{above_put, below_put}
use Rattle.mgs_grid.proofs.Pictures.{length-rows_put, length-text_rows}
use Rattle.mgs_screen.specs.declared.drawn_texts.DrawnText.{DrawnText}
use Rattle.mgs_screen.specs.TextsDrawn.{Stands, AreStanding, AreStandingAbove, AreStandingAround, AreStandingFrom, DoesShow, DoesShowMode, mode_text, rows_at, pushed, shown_rows, text_then}
use Rattle.mgs_screen.specs.TabStops.{IsTabStop}
use Rattle.mgs_screen.specs.declared.drawn_texts.Shown.{Shown}
use Rattle.mgs_screen.specs.declared.drawn_texts.ModeLine.{ModeLine}
use Rattle.mgs_screen.proofs.Canvas.{IsPut}

-- where there is no text
pub standing_none : (bs : List Buffer) (p : Picture) → AreStanding bs p []
standing_none bs p = record { each = λ i d is. cc }

stands_followed : (bs cs : List Buffer) (p : Picture) (d : DrawnText) → AreFollowed bs cs → Stands bs p d → Stands cs p d
stands_followed bs cs p d followed s =
    let next = followed d.name s.now s.found in
    record {
      drawn = s.drawn;
      serial = s.serial;
      size = s.size;
      start = s.start;
      fits = s.fits;
      rows = s.rows;
      stop = s.stop;
      mode = s.mode;
      now = next.0;
      found = next.1;
      follows = follows_then s.drawn s.now next.0 s.follows next.2;
    }

-- while the buffers follow one another
pub standing_followed : (bs cs : List Buffer) (p : Picture) (ds : List (Option DrawnText)) → AreFollowed bs cs → AreStanding bs p ds → AreStanding cs p ds
standing_followed bs cs p ds followed s = record { each = λ i d is. stands_followed bs cs p d followed (s.each i d is) }

pub length-shown_rows : (cols : ℕ) (d : DrawnText) (row shift : ℕ) (text : List ℕ) → length (shown_rows cols d row shift text) ≡ d.height
length-shown_rows cols d row shift text = length-text_rows cols (shift_at row shift) 0 d.height (drop d.shown.start text)

-- ROWS THAT ARE PUT

-- they are there
pub put_there : (first height : ℕ) (new more old : List Row) → first ≤ length old → length new ≡ height → rows_at first height (rows_put first (new ++ more) old) ≡ new
put_there first height new more old begins size =
    let front : List Row = take first old in
    let rest : List Row = drop (first + length (new ++ more)) old in
    let at : first ≡ length front + 0 = omega (arith, length-take-le first old begins) in
    ap (λ n. rows_at first n (rows_put first (new ++ more) old)) (sym size)
    ∙ ap (λ n. take (length new) (drop n (front ++ (new ++ more) ++ rest))) at
    ∙ ap (λ (ls : List Row). take (length new) (drop (length front + 0) ls)) (append_assoc front (new ++ more) rest)
    ∙ ap (take (length new)) (drop-append-add front ((new ++ more) ++ rest) 0)
    ∙ ap (take (length new)) (append_assoc new more rest)
    ∙ take-append_seam new (more ++ rest)

pub length-rows_at : (first height : ℕ) (lines : List Row) → first + height ≤ length lines → length (rows_at first height lines) ≡ height
length-rows_at first height lines fits = length-take-le height (drop first lines) (omega (arith, length-drop first lines, fits))

-- rows in their own place
pub put_same : (first height : ℕ) (lines : List Row) → first + height ≤ length lines → rows_put first (rows_at first height lines) lines ≡ lines
put_same first height lines fits =
    let rows : List Row = take height (drop first lines) in
    let size : length rows ≡ height = length-rows_at first height lines fits in
    ap (λ n. take first lines ++ rows ++ drop (first + n) lines) size
    ∙ ap (λ (ls : List Row). take first lines ++ rows ++ ls) (sym (drop-drop height first lines))
    ∙ append_assoc (take first lines) rows (drop height (drop first lines))
    ∙ ap (λ (ls : List Row). take first lines ++ ls) (take-append-drop height (drop first lines))
    ∙ take-append-drop first lines

-- the last of them
put_last : (first height : ℕ) (new : List Row) (r : Row) (old : List Row) → first ≤ length old → length new ≡ height → rows_at (first + height) 1 (rows_put first (new ++ r ∷ []) old) ≡ r ∷ []
put_last first height new r old begins size =
    let front : List Row = take first old in
    let rest : List Row = drop (first + length (new ++ r ∷ [])) old in
    let at : first + height ≡ length (front ++ new) + 0 = omega (arith, length-take-le first old begins, size, length-append front new) in
    ap (λ (ls : List Row). take 1 (drop (first + height) ls)) (append_assoc front (new ++ r ∷ []) rest ∙ ap (λ (ls : List Row). front ++ ls) (append_assoc new (r ∷ []) rest) ∙ sym (append_assoc front new (r ∷ rest)))
    ∙ ap (λ n. take 1 (drop n ((front ++ new) ++ r ∷ rest))) at
    ∙ ap (take 1) (drop-append-add (front ++ new) (r ∷ rest) 0)

-- those above and below stay
rows_above : (f h first : ℕ) (new old : List Row) → f + h ≤ first → first ≤ length old → rows_at f h (rows_put first new old) ≡ rows_at f h old
rows_above f h first new old above within =
    sym (drop-take f h (rows_put first new old)) ∙ ap (drop f) (above_put (f + h) first new old above within) ∙ drop-take f h old

rows_below : (f h first : ℕ) (new old : List Row) → first + length new ≤ f → first ≤ length old → rows_at f h (rows_put first new old) ≡ rows_at f h old
rows_below f h first new old below within = ap (take h) (below_put f first new old below within)

-- TEXTS THAT STAND

stands_moved : (bs : List Buffer) (p q : Picture) (d : DrawnText) → q.cols ≡ p.cols → length q.lines ≡ length p.lines → rows_at d.first d.height q.lines ≡ rows_at d.first d.height p.lines → rows_at (d.first + d.height) 1 q.lines ≡ rows_at (d.first + d.height) 1 p.lines → Stands bs p d → Stands bs q d
stands_moved bs p q d wide long same last s = record {
  drawn = s.drawn;
  serial = s.serial;
  size = s.size;
  start = s.start;
  fits = omega (arith, s.fits, long);
  rows = same ∙ s.rows ∙ ap (λ n. shown_rows n d d.shown.row d.shown.shift s.drawn.text) (sym wide);
  stop = s.stop;
  mode = last ∙ s.mode ∙ ap (λ n. mode_row n (mode_text d.name d.shown.mode) ∷ []) (sym wide);
  now = s.now;
  found = s.found;
  follows = s.follows;
}

put_long : (first : ℕ) (new : List Row) (p q : Picture) → IsPut first new p q → length q.lines ≡ length p.lines
put_long first new p q put = ap length put.lines ∙ length-rows_put first new p.lines put.fits

-- the texts above stand still
pub above_stay : (bs : List Buffer) (p q : Picture) (k first : ℕ) (new : List Row) (ds : List (Option DrawnText)) → IsPut first new p q → k ≤ first → AreStandingAbove k bs p ds → AreStandingAbove k bs q ds
above_stay bs p q k first new ds put above s = record {
  each = λ i d is.
      let one = s.each i d is in (
        stands_moved bs p q d put.wide (put_long first new p q put)
            (ap (rows_at d.first d.height) put.lines ∙ rows_above d.first d.height first new p.lines (omega (arith, one.1, above)) (omega (arith, put.fits)))
            (ap (rows_at (d.first + d.height) 1) put.lines ∙ rows_above (d.first + d.height) 1 first new p.lines (omega (arith, one.1, above)) (omega (arith, put.fits)))
            one.0,
        one.1,
      );
}

-- and those below
pub from_stay : (bs : List Buffer) (p q : Picture) (first k : ℕ) (new : List Row) (ds : List (Option DrawnText)) → IsPut first new p q → first + length new ≤ k → AreStandingFrom first bs p ds → AreStandingFrom k bs q ds
from_stay bs p q first k new ds put below s = record {
  each = λ i d is from.
      stands_moved bs p q d put.wide (put_long first new p q put)
      (ap (rows_at d.first d.height) put.lines ∙ rows_below d.first d.height first new p.lines (omega (arith, from, below)) (omega (arith, put.fits)))
      (ap (rows_at (d.first + d.height) 1) put.lines ∙ rows_below (d.first + d.height) 1 first new p.lines (omega (arith, from, below)) (omega (arith, put.fits)))
      (s.each i d is (omega (arith, from, below)));
}

-- all of them from the first row on
pub all_before : (bs : List Buffer) (p : Picture) (ds : List (Option DrawnText)) → AreStanding bs p ds → AreStandingAround 0 bs p ds []
all_before bs p ds s = record {
  from = record { each = λ i d is from. s.each i d is };
  above = record { each = λ i d is. cc };
}

pub above_all : (k : ℕ) (bs : List Buffer) (p : Picture) (ds : List (Option DrawnText)) → AreStandingAbove k bs p ds → AreStanding bs p ds
above_all k bs p ds s = record { each = λ i d is. (s.each i d is).0 }

-- one that is found
pub found_stands : (bs : List Buffer) (p : Picture) (ds : List (Option DrawnText)) (index : ℕ) (said name : List ℕ) (first height : ℕ) (o : Option Shown) → AreStandingFrom first bs p ds → said ≡ name
    → IfSome o (λ e. slice_get ds index ≡ Some (Some (text_then said first height e))) → IfSome o (λ e. Stands bs p (text_then name first height e))
found_stands bs p ds index said name first height None s same is = is
found_stands bs p ds index said name first height (Some e) s same is =
    subst (λ (n : List ℕ). Stands bs p (text_then n first height e)) same (s.each index (text_then said first height e) is (omega arith))

-- ONE MORE

last_or_before : (ds : List (Option DrawnText)) (o : Option DrawnText) (i : ℕ) (d : DrawnText) → slice_get (ds ++ o ∷ []) i ≡ Some (Some d) → (slice_get ds i ≡ Some (Some d)) ⊎ (o ≡ Some d)
last_or_before [] o zero d is = inr (same_Some o (Some d) is)
last_or_before [] o (suc i) d is = cc
last_or_before (x ∷ ds) o zero d is = inl is
last_or_before (x ∷ ds) o (suc i) d is = last_or_before ds o i d is

pushed_has : (full : Bool) (ds : List (Option DrawnText)) (o : Option DrawnText) (i : ℕ) (d : DrawnText) → slice_get (if full then ds else ds ++ o ∷ []) i ≡ Some (Some d) → (slice_get ds i ≡ Some (Some d)) ⊎ (o ≡ Some d)
pushed_has true ds o i d is = inl is
pushed_has false ds o i d is = last_or_before ds o i d is

pub above_pushed : (k m : ℕ) (bs : List Buffer) (p : Picture) (ds : List (Option DrawnText)) (o : Option DrawnText) → k ≤ m
    → AreStandingAbove k bs p ds → ((d : DrawnText) → o ≡ Some d → Stands bs p d × (d.first + d.height < m)) → AreStandingAbove m bs p (pushed o ds)
above_pushed k m bs p ds o lower s more = record {
  each = λ i d is. elim (pushed_has (length ds == 8) ds o i d is) [
    | inl old ↦
        let one = s.each i d old in
        (one.0, omega (arith, one.1, lower))
    | inr new ↦ more d new
  ];
}

-- A TEXT THAT IS DRAWN

-- it stands
pub stands_drawn : (bs : List Buffer) (q : Picture) (d : DrawnText) (b : Buffer) → find_buffer d.name bs ≡ Some b → d.shown.serial ≡ b.serial → d.shown.size ≡ length b.text → d.shown.start ≤ length b.text → d.first + d.height < length q.lines
    → DoesShow d d.shown.row d.shown.shift b.text q → IsTabStop b.text d.shown.stop → DoesShowMode (d.first + d.height) d.name d.shown.mode q → Stands bs q d
stands_drawn bs q d b found serial size start fits rows stop mode = record {
  drawn = b;
  serial = sym serial;
  size = sym size;
  start = start;
  fits = fits;
  rows = rows;
  stop = stop;
  mode = mode;
  now = b;
  found = found;
  follows = follows_same b;
}

-- A WINDOW THAT IS DRAWN

-- a place more, for a text that stands or for none
texts_pushed : (bs : List Buffer) (p q : Picture) (first k : ℕ) (new : List Row) (o : Option DrawnText) (olds ds es : List (Option DrawnText)) → IsPut first new p q → first + length new ≤ k → es ≡ pushed o ds
    → ((d : DrawnText) → o ≡ Some d → Stands bs q d × (d.first + d.height < k)) → AreStandingAround first bs p olds ds → AreStandingAround k bs q olds es
texts_pushed bs p q first k new o olds ds es put under is more s = record {
  from = from_stay bs p q first k new olds put under s.from;
  above = subst (λ (xs : List (Option DrawnText)). AreStandingAbove k bs q xs) (sym is) (
      above_pushed first k bs q ds o (omega (arith, under)) (above_stay bs p q first first new ds put (omega arith) s.above) more);
}

-- it shows no text that is kept
pub texts_passed : (bs : List Buffer) (p q : Picture) (first k : ℕ) (new : List Row) (olds ds es : List (Option DrawnText)) → IsPut first new p q → first + length new ≤ k → es ≡ pushed None ds
    → AreStandingAround first bs p olds ds → AreStandingAround k bs q olds es
texts_passed bs p q first k new olds ds es put under is s = texts_pushed bs p q first k new None olds ds es put under is (λ d none. absurd (none-some d none)) s

-- it shows a text
pub texts_kept : (bs : List Buffer) (p q : Picture) (d : DrawnText) (b : Buffer) (text : List ℕ) (olds ds es : List (Option DrawnText))
    → IsPut d.first (shown_rows p.cols d d.shown.row d.shown.shift text ++ mode_row p.cols (mode_text d.name d.shown.mode) ∷ []) p q
    → find_buffer d.name bs ≡ Some b → d.shown.serial ≡ b.serial → d.shown.size ≡ length text → d.shown.start ≤ length text → IsTabStop text d.shown.stop → text ≡ b.text → es ≡ pushed (Some d) ds
    → AreStandingAround d.first bs p olds ds → AreStandingAround (d.first + (d.height + 1)) bs q olds es
texts_kept bs p q d b text olds ds es put found serial size start stop same is s =
    let pane : List Row = shown_rows p.cols d d.shown.row d.shown.shift text in
    let mode : Row = mode_row p.cols (mode_text d.name d.shown.mode) in
    let high : length pane ≡ d.height = length-shown_rows p.cols d d.shown.row d.shown.shift text in
    let long : ℕ = length q.lines in
    let fits : d.first + d.height < long = omega (arith, put_long d.first (pane ++ mode ∷ []) p q put, put.fits, length-append pane (mode ∷ []), high) in
    let there : rows_at d.first d.height q.lines ≡ pane =
    ap (rows_at d.first d.height) put.lines ∙ put_there d.first d.height pane (mode ∷ []) p.lines (omega (arith, put.fits)) high in
    let last : rows_at (d.first + d.height) 1 q.lines ≡ mode ∷ [] =
    ap (rows_at (d.first + d.height) 1) put.lines ∙ put_last d.first d.height pane mode p.lines (omega (arith, put.fits)) high in
    let now : Stands bs q d =
    stands_drawn bs q d b found serial (size ∙ ap length same) (omega (arith, start, ap length same)) fits (
    there
    ∙ ap (λ n. shown_rows n d d.shown.row d.shown.shift text) (sym put.wide)
    ∙ ap (λ (ys : List ℕ). shown_rows q.cols d d.shown.row d.shown.shift ys) same)
    (subst (λ (ys : List ℕ). IsTabStop ys d.shown.stop) same stop)
    (last ∙ ap (λ n. mode_row n (mode_text d.name d.shown.mode) ∷ []) (sym put.wide)) in
    let k : ℕ = d.first + (d.height + 1) in
    let inside : d.first + d.height < k = omega arith in
    texts_pushed bs p q d.first k (pane ++ mode ∷ []) (Some d) olds ds es put (omega (arith, length-append pane (mode ∷ []), high)) is
    (λ e kept. subst (λ (x : DrawnText). Stands bs q x × (x.first + x.height < k)) (same_Some d e kept) (now, inside)) s

-- THE MODE LINE

-- rows that are put above it leave it
pub mode_stays : (row first : ℕ) (name : List ℕ) (new : List Row) (p q : Picture) (o : Option Shown) → IsPut first new p q → first + length new ≤ row → IfSome o (λ e. DoesShowMode row name e.mode p) → IfSome o (λ e. DoesShowMode row name e.mode q)
mode_stays row first name new p q None put below is = is
mode_stays row first name new p q (Some e) put below is =
    ap (rows_at row 1) put.lines ∙ rows_below row 1 first new p.lines below (omega (arith, put.fits)) ∙ is ∙ ap (λ n. mode_row n (mode_text name e.mode) ∷ []) (sym put.wide)

pub mode_stands : (bs : List Buffer) (p : Picture) (name : List ℕ) (first height : ℕ) (o : Option Shown) → IfSome o (λ e. Stands bs p (text_then name first height e)) → IfSome o (λ e. DoesShowMode (first + height) name e.mode p)
mode_stands bs p name first height None is = is
mode_stands bs p name first height (Some e) is = is.mode

-- it is drawn already
pub mode_there : (row : ℕ) (name : List ℕ) (m : ModeLine) (p : Picture) → row < length p.lines → DoesShowMode row name m p → p ≡ record p { lines = rows_put row (mode_row p.cols (mode_text name m) ∷ []) p.lines }
mode_there row name m p within is =
    ap (λ (ls : List Row). record p { lines = ls }) (sym (put_same row 1 p.lines (omega (arith, within))) ∙ ap (λ (rows : List Row). rows_put row rows p.lines) is)
