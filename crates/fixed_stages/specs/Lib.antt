-- The stages of a pass of the 9/7 transform in fixed point: the lifting of one line, and its stages as the code hands them over.
--
-- Definitions that demand 3 rests on:
--   Fixed        the fixed-point 9/7 lifting of one line, and under a table: nearest constants, products cut to their widths, one cut towards
--                minus infinity
-- Others:
--   Cases        the lifting of one line by cases, ends apart from the middle (source document 003, equations 2 to 4)
--   Constants    the constants of the stages, and their bits
--   Steps        a stage as a step or a scaling of the lifting crate, whatever the width of its product
--   Kernels      a pass as a kernel of that crate, a single sample as a scaling, and the stages that the code hands over
--   Safe         when a pass can be worked in memory: limits of its bits, values below a power of 2 in magnitude
-- Proved of them:
--   CaseLaws     pass_is: the pass by cases is the pass
--   ConstantLaws no_tie, is_nearest: a constant at F bits is the nearest multiple, for F from 1 to 24
--   RoundingLaws rounded_is: the constants at 32 bits round to the nearest at fewer
--   Sizes        sum_size, product_size, cut_size: 64 bits hold the sum of a stage, and its product before and after its cut
--   StepLaws     step_applied, scale_applied, single_applied: the steps make the stages
--   KernelLaws   worked_fixed, single_fixed: the kernel makes the pass
--   SafeLaws     kernel_safe: no number on the way leaves its machine type where the values are sized
--   LineLaws     line_safe: so a line can be worked in memory; bits_right: the bits of an accepted table are within their limits
--   LevelBits    what is read of a level of an accepted table, and its stages by the bits that their products are cut to
pub mod Fixed
pub mod Cases
pub mod Constants
pub mod Steps
pub mod Kernels
pub mod Safe
pub mod CaseLaws
pub mod ConstantLaws
pub mod RoundingLaws
pub mod Sizes
pub mod StepLaws
pub mod KernelLaws
pub mod SafeLaws
pub mod LineLaws
pub mod LevelBits
