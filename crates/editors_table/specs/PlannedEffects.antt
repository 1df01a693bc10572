-- What a plan of a step of an editor says.
use Rattle.std.specs.Prelude.{◌≡◌, List}
use Rattle.doc_model.specs.declared.editor.Editor.{Editor}
use Rattle.doc_model.specs.rules.Editing.{EditorEffect, editors_after, editors_moved, editors_refusal}
use Rattle.editors_table.specs.declared.plan.EditorPlan.{EditorPlan}

-- the plan is this effect of these live editors
pub record IsEffect (editors : List Editor) (effect : EditorEffect) (plan : EditorPlan) : Type 0 where
  pub after : plan.after ≡ editors_after editors effect
  pub moved : plan.moved ≡ editors_moved effect
  pub code : plan.code ≡ editors_refusal effect
