pub mod Explanation
