pub mod Marks
pub mod Origins
