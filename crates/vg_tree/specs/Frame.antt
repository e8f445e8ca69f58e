-- What the code is given where it makes trees.
use Rattle.vg_tree.specs.declared.frame.Frame.{Frame as FrameGiven}
use Rattle.vg_type.specs.Setting.{setting_in}
use Rattle.vg_tree.specs.Made.{Frame}
use Rattle.vg_tree.specs.Access.{frame_of}

abbrev pub frame_in : FrameGiven → Frame
frame_in frame = frame_of (setting_in frame.setting.now.context.now) frame.name.now
