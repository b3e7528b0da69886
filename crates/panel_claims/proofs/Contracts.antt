-- What a caller learns of each call is what the claims say that it leaves.
use mathlib.Core.Path.{sym, ap}
use Rattle.player_model.specs.Calls.{no_buffers, only_block, only_settings}
use Rattle.base_answer.specs.declared.AnsweredLine.{AnsweredLine}
use Rattle.base_answer.specs.declared.AnsweredUnits.{AnsweredUnits}
use Rattle.base_answer.specs.declared.Answered.{Answered}
use Rattle.panel_claims.specs.Claims.{with_answer, with_answers, core_after, after_of}
use Rattle.panel_claims.specs.ByContract.{CoreByContract, PanelByContract}
use Rattle.panel.specs.declared.Panel.{Panel}
use Rattle.panel.specs.declared.Core.{Core}

pub core-by-contract : CoreByContract
unfolding core_after
core-by-contract =
    record {
      load-score = λ κ a r e l code vals. sym (ap (λ (x : AnsweredLine Core). with_answer x.left x.answer x.line no_buffers) l);
      receive-unit = λ κ a r e l code vals. sym (ap (λ (x : AnsweredLine Core). with_answer x.left x.answer x.line no_buffers) l);
      enter-line = λ κ a r e l code vals. sym (ap (λ (x : AnsweredLine Core). with_answer x.left x.answer x.line no_buffers) l);
      load-text = λ κ a r e l code vals. sym (ap (λ (x : AnsweredLine Core). with_answer x.left x.answer x.line no_buffers) l);
      receive-burst = λ κ a r e l. ((λ code vals. λ i. let x = sym l.0 i in with_answers x.left x.answer x.units (sym l.1 i)), ap (λ (x : AnsweredUnits Core). x.units) l.0);
      play-keys = λ κ a r e l code vals. sym (ap (λ (x : Answered Core). with_answer x.left x.answer 0 no_buffers) l);
      change = λ κ a r e l code vals. λ i. let x = sym l.0 i in with_answer x.left x.answer 0 (only_settings (sym l.1 i));
      undo = λ κ a r e l code vals. sym (ap (λ (x : Answered Core). with_answer x.left x.answer 0 (only_settings a.1.0.now)) l);
      cycle = λ κ a r e l. λ i. let x = sym l.0 i in with_answer x.left x.answer 0 (only_block (sym l.1 i));
      missed-notes = λ κ a r e l. l;
      waiting-lines = λ κ a r e l. l;
      waiting-messages = λ κ a r e l. l;
      sounding-notes = λ κ a r e l. l;
      has-ended = λ κ a r e l. l;
      position-in-ticks = λ κ a r e l. l;
      settings-in-use = λ κ a r e l. l;
      records-in-use = λ κ a r e l. l;
    }

pub panel-by-contract : PanelByContract
unfolding core_after after_of
panel-by-contract =
    record {
      load-score = λ κ a r e l. sym (ap (λ (x : AnsweredLine Panel). with_answer x.left x.answer x.line no_buffers) l);
      receive-unit = λ κ a r e l. sym (ap (λ (x : AnsweredLine Panel). with_answer x.left x.answer x.line no_buffers) l);
      enter-line = λ κ a r e l. sym (ap (λ (x : AnsweredLine Panel). with_answer x.left x.answer x.line no_buffers) l);
      load-text = λ κ a r e l. sym (ap (λ (x : AnsweredLine Panel). with_answer x.left x.answer x.line no_buffers) l);
      receive-burst = λ κ a r e l. ((λ i. let x = sym l.0 i in with_answers x.left x.answer x.units (sym l.1 i)), ap (λ (x : AnsweredUnits Panel). x.units) l.0);
      play-keys = λ κ a r e l. sym (ap (λ (x : Answered Panel). with_answer x.left x.answer 0 no_buffers) l);
      change = λ κ a r e l. λ i. let x = sym l.0 i in with_answer x.left x.answer 0 (only_settings (sym l.1 i));
      undo = λ κ a r e l. sym (ap (λ (x : Answered Panel). with_answer x.left x.answer 0 (only_settings a.1.0.now)) l);
      cycle = λ κ a r e l. λ i. let x = sym l.0 i in with_answer x.left x.answer 0 (only_block (sym l.1 i));
      missed-notes = λ κ a r e l. l;
      waiting-lines = λ κ a r e l. l;
      waiting-messages = λ κ a r e l. l;
      sounding-notes = λ κ a r e l. l;
      has-ended = λ κ a r e l. l;
      position-in-ticks = λ κ a r e l. l;
      settings-in-use = λ κ a r e l. l;
      records-in-use = λ κ a r e l. l;
      fresh = λ κ a r e l. l;
      split = λ κ a r e l. l;
    }
