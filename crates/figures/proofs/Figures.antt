-- Each figure by its proof.
use Rattle.std.proofs.Common.{refl}
use Rattle.gregorian.specs.DatesLemmas.{leap_day}
use Rattle.gregorian.specs.WeekDates.{long_year}
use Rattle.figures.specs.Figures.{WorkedFigures}
use Rattle.figures.specs.Words.{evens, odds}
use Rattle.figures.proofs.Singles.{listed}
use Rattle.figures.proofs.Points.{at_5, at_15, at_25, before_at_two, never_before}
use Rattle.figures.proofs.Sets.{set_of, touching, complement_fits, complement_refused}
use Rattle.figures.proofs.Calendars.{no_leap_day, leap_day_refused, no_week, week_refused}

pub worked_figures : WorkedFigures
worked_figures = record {
  stands_before = at_5;
  moves_inside = at_15;
  stands_after = at_25;
  lesser = λ m e f. (e, f);
  before_at_two = before_at_two;
  never_before = never_before;
  touching = touching;
  some_evens = set_of evens (listed 16 0) refl;
  sixteen = refl;
  complement_fits = complement_fits;
  some_odds = set_of odds (listed 16 1) refl;
  complement_refused = complement_refused;
  leap_day = leap_day;
  no_leap_day = no_leap_day;
  leap_day_refused = leap_day_refused;
  long_year = long_year.0;
  next_year = long_year.1;
  no_week = no_week;
  week_refused = week_refused;
}
