-- Parts of the test at the end of an action.
pub mod Parts
